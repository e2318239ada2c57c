-- Document 00, demand 2: 'The clauses are those of document 01 .. in its order and numbering, no more and no fewer.' What a caller may
-- cite of the clause call and of the totals without opening their definitions. It is proved of every fit table in proofs/Joined.
use Rattle.std.specs.Prelude.{◌≡◌, List, [], ◌∷◌, ◌++◌, ℕ, ◌+◌, ◌*◌, ◌-◌, ◌≤◌, ◌<◌, ℤ, length, take, drop}
use Rattle.lists.specs.Writing.{write}
use Rattle.job.specs.declared.Job.{Job}
use Rattle.job.specs.Limits.{max_steps}
use Rattle.job.specs.Answers.{Answer, gives, refuses}
use Rattle.job.specs.Literals.{Clause}
use Rattle.job.specs.Numbering.{total}
use Rattle.job.specs.Clauses.{clauses}
use Rattle.totals.specs.Totals.{totals_of}
use Rattle.cnf.specs.declared.Piece.{Piece}
use Rattle.cnf.specs.Piece.{least_room, flat, piece, written, buffer_after}

-- the longest clause says that some item differs: a literal for each step and each variable, and no more variables than steps
abbrev pub longest : ℕ
longest = 2 * max_steps

abbrev pub Short : List Clause → Type 0
Short [] = Unit {0}
Short (c ∷ cs) = (length c ≤ longest) × Short cs

-- one piece after the other, each with so much room, from clause c on
unfoldable pub joined : Job → ℕ → List ℕ → List Clause
joined J c [] = []
joined J c (room ∷ rooms) = piece J c room ++ joined J (c + length (piece J c room)) rooms

-- the numbers that a call has written, and then those of the calls after it; none where it refuses
abbrev pub then_next : Answer Piece → List ℤ → (ℕ → List ℤ) → List ℤ
then_next (gives k) buffer next = take k.numbers buffer ++ next k.clauses
then_next (refuses number place) buffer next = []

-- what one call after the other writes, each into a buffer of its own, from clause c on
unfoldable pub called : Job → ℕ → List (List ℤ) → List ℤ
called J c [] = []
called J c (old ∷ olds) = then_next (written J c old) (buffer_after J c old) λ k. called J (c + k) olds

-- each buffer has 512 numbers or more
abbrev pub Roomy : List ℕ → Type 0
Roomy [] = Unit {0}
Roomy (room ∷ rooms) = (least_room ≤ room) × Roomy rooms

abbrev pub EachRoomy : List (List ℤ) → Type 0
EachRoomy [] = Unit {0}
EachRoomy (old ∷ olds) = (least_room ≤ length old) × EachRoomy olds

-- a clause that there is, and a buffer long enough for 51
pub record Asked (J : Job) (c room : ℕ) : Type 0 where
  pub first : 1 ≤ c
  pub last : c ≤ length (clauses J)
  pub wide : least_room ≤ room

-- a piece: what is answered, and the buffer
pub record Gives (J : Job) (c : ℕ) (old : List ℤ) (cs : List Clause) : Type 0 where
  pub answer : written J c old ≡ gives (record { clauses = length cs; numbers = length (flat cs) })
  pub buffer : buffer_after J c old ≡ write old 0 (flat cs)

pub record AllClauses (J : Job) : Type 0 where
  -- there is a clause
  pub some : 0 < length (clauses J)
  -- no clause is longer than a buffer must be
  pub short : Short (clauses J)
  -- the totals are the header's two numbers
  pub totals : totals_of J ≡ gives (record { variables = total J.program; clauses = length (clauses J) })
  -- a call gives a piece
  pub call : (c : ℕ) (old : List ℤ) → Asked J c (length old) → Gives J c old (piece J c (length old))
  -- a piece is never empty
  pub never_empty : (c room : ℕ) → Asked J c room → 0 < length (piece J c room)
  -- a piece is a beginning of what is left
  pub beginning : (c room : ℕ) → drop (c - 1) (clauses J) ≡ piece J c room ++ drop (c - 1 + length (piece J c room)) (clauses J)
  -- as many pieces as there are clauses are all clauses in order, whatever the lengths of the buffers
  pub pieces : (rooms : List ℕ) → Roomy rooms → length (clauses J) ≤ length rooms → joined J 1 rooms ≡ clauses J
  -- and so many calls write them, each clause closed by its 0
  pub calls : (olds : List (List ℤ)) → EachRoomy olds → length (clauses J) ≤ length olds → called J 1 olds ≡ flat (clauses J)
