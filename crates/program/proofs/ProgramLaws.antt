-- Laws of the program part: one line and the rest, and line 1.
use mathlib.Core.Path.{◌≡◌, refl}
use mathlib.Core.Bool.{true, false}
use mathlib.Core.List.{List, [], ◌∷◌}
use Prim.Native.Nat.{ℕ, ◌+◌}
use Rattle.std.specs.Prelude.{Option, Some, None, Result, Ok, Err}
use lib.ListN.{length}
use Rattle.job.specs.Faults.{refusal_at}
use Rattle.job.specs.declared.refusal.Fault.{Fault}
use Rattle.job.specs.declared.refusal.Fault.TheVariants.{NoLemmas}
use Rattle.job.specs.declared.refusal.Refusal.{Refusal}
use Rattle.scan.specs.Lines.{Row}
use Rattle.fields.specs.Fields.{whole_line}
use Rattle.lines.specs.FirstLine.{first_line, code_of}
use Rattle.lines.specs.declared.FirstLine.{FirstLine}
use Rattle.program.specs.Draft.{blank}
use Rattle.program.specs.ProgramLine.{line_of, goes_on, draft_of}
use Rattle.program.specs.Program.{reached, placed, follow, program, opened, whole, from_line1}
use Rattle.program.specs.declared.Draft.{Draft}
use Rattle.program.specs.declared.ProgramPart.{ProgramPart}

-- ---- what is read of a line, at its number

pub placed_ok : {T : Type 0} (n : ℕ) (r : Result T Fault) (x : T) → placed n r ≡ Ok x → r ≡ Ok x
placed_ok n (Ok y) x e = cc
placed_ok n (Err fault) x e = cc

pub placed_err : {T : Type 0} (n : ℕ) (r : Result T Fault) (w : Refusal) → placed n r ≡ Err w
    → (fault : Fault) × (r ≡ Err fault) × (refusal_at fault n ≡ w)
placed_err n (Ok y) w e = cc
placed_err n (Err fault) w e = (fault, refl, cc)

-- ---- program lines

-- the first line, which ends before e, and the rest
pub program_turn : (d : Draft) (at n : ℕ) (l : Row) (ls : List Row) (e : ℕ) → at + length l.bytes + 1 ≡ e
    → program d at n (l ∷ ls) ≡ follow (line_of d l (n + 1)) d (n + 1) e λ x. program x e (n + 1) ls
unfolding program
program_turn d at n l ls e k = rw k

-- behind a line, by whether lines go on, and with the draft then
module _ (r : Result (Option Draft) Fault) (d : Draft) (n at : ℕ) (more : Draft → Result ProgramPart Refusal) where
  pub follow_more : Ok true ≡ goes_on r → follow r d n at more ≡ more (draft_of r d)
  unfolding follow
  follow_more e = go r e
    where
      go : (r : Result (Option Draft) Fault) → Ok true ≡ goes_on r → follow r d n at more ≡ more (draft_of r d)
      go (Ok (Some e)) h = refl
      go (Ok None) h = cc
      go (Err fault) h = cc

  pub follow_lemmas : Ok false ≡ goes_on r → follow r d n at more ≡ Ok (reached n at (draft_of r d))
  unfolding follow
  follow_lemmas e = go r e
    where
      go : (r : Result (Option Draft) Fault) → Ok false ≡ goes_on r → follow r d n at more ≡ Ok (reached n at (draft_of r d))
      go (Ok (Some e)) h = cc
      go (Ok None) h = refl
      go (Err fault) h = cc

  pub follow_fault : (fault : Fault) → Err fault ≡ goes_on r → follow r d n at more ≡ Err (refusal_at fault n)
  unfolding follow
  follow_fault fault e = go r e
    where
      go : (r : Result (Option Draft) Fault) → Err fault ≡ goes_on r → follow r d n at more ≡ Err (refusal_at fault n)
      go (Ok (Some e)) h = cc
      go (Ok None) h = cc
      go (Err other) h = cc

pub program_none : (d : Draft) (at n : ℕ) → program d at n [] ≡ Err (refusal_at NoLemmas (n + 1))
unfolding program
program_none d at n = refl

-- a line after which no program line is read
pub not_more : (r : Result (Option Draft) Fault) → (goes_on r ≡ Ok true → ⊥) → (d : Draft) (n at : ℕ)
    (k k' : Draft → Result ProgramPart Refusal) → follow r d n at k ≡ follow r d n at k'
unfolding follow
not_more (Ok (Some e)) h d n at k k' = absurd (h refl)
not_more (Ok None) h d n at k k' = refl
not_more (Err fault) h d n at k k' = refl

-- line 1, by what is read of it, and the rest
pub line_1 : (l : Row) (ls : List Row) (r : Result (Unit {0}) Fault) (f : Result FirstLine Fault)
    → r ≡ whole_line l → f ≡ first_line l.bytes (record { line = 1; column = 0 })
    → from_line1 (l ∷ ls) ≡ whole r (opened f λ f. program (blank f.bound (code_of f.word)) (length l.bytes + 1) 1 ls)
unfolding from_line1
line_1 l ls r f k h = rw (k, h)
