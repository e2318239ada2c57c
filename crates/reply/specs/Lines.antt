-- The lines of a reply (document 01, 'Calls and buffers', Checking): 'Lines that begin `c` are skipped anywhere; then one
-- `s SATISFIABLE`, then lines of `v` and one or more numbers .. ; a single 0 ends the last; only `c` lines follow.'
use Rattle.std.specs.Prelude.{Bool, cond, List, [], ◌∷◌, Option, None, Some, ℕ, suc, ltb, drop}
use Rattle.lists.specs.Pieces.{Pieces, last, piece, cut, starts, is}
use Rattle.job.specs.Literals.{place}
use Rattle.tokens.specs.declared.Token.{Token}
use Rattle.tokens.specs.declared.Token.TheVariants.{Bad, Zero, Number}
use Rattle.tokens.specs.Numbers.{token}
use Rattle.tokens.specs.Kinds.{satisfiable, unsatisfiable}
use Rattle.reply.specs.Said.{Store}

-- a line that begins `c`
abbrev pub comment : List ℕ → Bool
comment p = starts (99 ∷ []) p

-- ---- the first line that is not `c`; k is the number of the line

pub data Opened : Type 0 where
  stopped : ℕ → ℕ → Opened
  begun : ℕ → Pieces → Opened

-- 61 'missing: lines+1', and a last line without LF is 61 at its own line (reading 18): both are the last piece
unfoldable pub opening : ℕ → Pieces → Opened
opening k (last p) = stopped 61 k
opening k (piece p ps) =
    let next = opening (suc k) ps in
    cond (comment p) next (cond (is satisfiable p) (begun (suc k) ps) (cond (is unsatisfiable p) (stopped 66 k) (stopped 61 k)))

-- ---- the numbers

-- what a number, or a line of them, came to: a fault's number, more to come, or closed by the 0
pub data Part (S : Type 0) : Type 0 where
  fault : ℕ → S → Part S
  more : S → Part S
  closed : S → Part S

-- what the lines of `v` came to: a fault's number and line, or the line behind the closing 0 and what follows
pub data Told (S : Type 0) : Type 0 where
  halted : ℕ → ℕ → S → Told S
  told : ℕ → Pieces → S → Told S

module _ {S : Type 0} where
  -- a word that others follow: behind the 0 there is none (reading 19)
  abbrev pub goes : Part S → (S → Part S) → Part S
  goes (fault c m) next = fault c m
  goes (more m) next = next m
  goes (closed m) next = fault 61 m

  -- a line with its LF
  abbrev pub after : ℕ → Part S → Pieces → (S → Told S) → Told S
  after k (fault c m) ps next = halted c k m
  after k (more m) ps next = next m
  after k (closed m) ps next = told (suc k) ps m

  -- 61: the text's end, or a last line without LF; 'a fault further left in that line comes first' (reading 18)
  abbrev pub unended : ℕ → Part S → Told S
  unended k (fault c m) = halted c k m
  unended k (more m) = halted 61 k m
  unended k (closed m) = halted 61 k m

module _ {S : Type 0} (st : Store S) (N : ℕ) where
  -- 62 'number past N', before 63 'number twice'; then what stands behind the digits
  unfoldable pub say_in : S → Token → Part S
  say_in m Bad = fault 61 m
  say_in m Zero = closed m
  say_in m (Number l whole) =
      cond (ltb (place l) N) (cond (st.has m (place l)) (fault 63 m) (cond whole (more (st.put m l)) (fault 61 m))) (fault 62 m)

  -- the words behind `v `, left to right
  unfoldable pub numbers_in : S → Pieces → Part S
  numbers_in m (last w) = say_in m (token w)
  numbers_in m (piece w ws) = goes (say_in m (token w)) (λ m'. numbers_in m' ws)

  -- '`v` and one or more numbers (the 0 counts), a space before each'
  unfoldable pub value_line_in : S → List ℕ → Part S
  value_line_in m p = cond (starts (118 ∷ 32 ∷ []) p) (numbers_in m (cut 32 (drop 2 p))) (fault 61 m)

  -- the lines from line k on, up to the closing 0
  unfoldable pub value_lines_in : ℕ → S → Pieces → Told S
  value_lines_in k m (last p) = unended k (value_line_in m p)
  value_lines_in k m (piece p ps) =
      let next = value_lines_in (suc k) m ps in
      let line = after k (value_line_in m p) ps (λ m'. value_lines_in (suc k) m' ps) in
      cond (comment p) next line

-- ---- 'only `c` lines follow': the first line that is none, where there is one

unfoldable pub closing : ℕ → Pieces → Option ℕ
closing k (last []) = None
closing k (last (b ∷ bs)) = Some k
closing k (piece p ps) = let next = closing (suc k) ps in cond (comment p) next (Some k)
