-- One number of a reply (document 01, 'Calls and buffers', Checking): 'no leading zero, no `-0`, at most 7 digits'.
use Rattle.std.specs.Prelude.{Bool, true, false, not, ◌&&◌, ◌||◌, cond, List, [], ◌∷◌, ℕ, zero, suc, ◌+◌, ◌*◌, ◌-◌, eqb, length}
use Rattle.lists.specs.Rows.{num}
use Rattle.lists.specs.Tests.{within}
use Rattle.lists.specs.Pieces.{up_to}
use Rattle.job.specs.Literals.{valued}
use Rattle.tokens.specs.declared.Token.{Token}
use Rattle.tokens.specs.declared.Token.TheVariants.{Bad, Zero, Number}
use Rattle.tokens.specs.declared.FirstWord.{FirstWord}

-- the digits at the front of a word: 'the number ends before the x' (reading 17)
unfoldable pub front : List ℕ → List ℕ
front [] = []
front (b ∷ bs) = cond (within 48 57 b) (b ∷ front bs) []

-- the number that digits write behind v
unfoldable pub decimal : ℕ → List ℕ → ℕ
decimal v [] = v
decimal v (d ∷ ds) = decimal (v * 10 + (d - 48)) ds

-- 'at most 7 digits', at least one, and 'no leading zero'
unfoldable pub allowed : List ℕ → Bool
allowed ds = within 1 7 (length ds) && (not (eqb (num ds 0) 48) || eqb (length ds) 1)

-- the largest number of at most 7 digits
abbrev pub max_number : ℕ
max_number = 9999999

-- a number by its sign, true for one without `-`: 0 closes, and there is no `-0`; whole where nothing stands behind the digits
abbrev pub numbered : Bool → ℕ → Bool → Token
numbered on zero whole = cond (on && whole) Zero Bad
numbered on (suc x) whole = Number (valued on x) whole

unfoldable pub unsigned : Bool → List ℕ → Token
unsigned on w = cond (allowed (front w)) (numbered on (decimal 0 (front w)) (eqb (length (front w)) (length w))) Bad

-- a word between spaces
unfoldable pub token : List ℕ → Token
token [] = Bad
token (b ∷ bs) = cond (eqb b 45) (unsigned false bs) (unsigned true (b ∷ bs))

-- the word at the front of a line's rest: it goes up to a space, or to the line's end
unfoldable pub first_word : List ℕ → FirstWord
first_word rest = let w = up_to 32 rest in record { token = token w; length = length w }
