-- What holds of a draft at `lemmas`: what holds after line 1 and is kept by every line.
use mathlib.Core.Path.{◌≡◌, refl, subst}
use mathlib.Core.Bool.{Bool, true, false, cond}
use mathlib.Core.List.{List, [], ◌∷◌}
use Rattle.std.specs.Prelude.{Option, Some, None, Result, Ok, Err}
use Prim.Native.Nat.{ℕ, ◌+◌, ◌≤◌}
use native.Mathlib.Omega.{arith}
use lib.ListN.{length}
use Rattle.lists.specs.Tests.{within}
use Rattle.lists.proofs.TestLaws.{is_within}
use Rattle.job.specs.Limits.{max_text}
use Rattle.scan.specs.Lines.{Row, lines}
use Rattle.fields.specs.Fields.{whole_line}
use Rattle.lines.specs.FirstLine.{first_line}
use Rattle.job.specs.declared.refusal.Fault.{Fault}
use Rattle.job.specs.declared.refusal.Refusal.{Refusal}
use Rattle.job.specs.Faults.{refusal_of}
use Rattle.job.specs.declared.refusal.Fault.TheVariants.{TextSize}
use Rattle.lines.specs.FirstLine.{code_of}
use Rattle.lines.specs.declared.FirstLine.{FirstLine}
use Rattle.program.specs.Draft.{blank}
use Rattle.program.specs.ProgramLine.{line_of, draft_of}
use Rattle.program.specs.Program.{follow, program, opened, whole, from_line1, program_of}
use Rattle.program.specs.declared.Draft.{Draft}
use Rattle.program.specs.declared.ProgramPart.{ProgramPart}
use Rattle.program.proofs.DraftLaws.{Within, blank_within}
use Rattle.program.proofs.ProgramLineLaws.{line_kept}

-- of a program part that reaches `lemmas`
abbrev pub Reached : (Draft → ℕ → ℕ → Type 0) → Result ProgramPart Refusal → Type 0
Reached I (Ok part) = I part.draft part.line part.at
Reached I (Err refusal) = Unit {0}

module _ (I : Draft → ℕ → ℕ → Type 0)
    (next : (d : Draft) (l : Row) (at n : ℕ) → I d n at → I (draft_of (line_of d l (n + 1)) d) (n + 1) (at + length l.bytes + 1)) where
  program_reached : (d : Draft) (at n : ℕ) (ls : List Row) → I d n at → Reached I (program d at n ls)
  unfolding program follow
  program_reached d at n [] h = tt
  program_reached d at n (l ∷ ls) h = go (line_of d l (n + 1)) (next d l at n h) (λ e k. program_reached e _ _ ls k)
    where
      go : (r : Result (Option Draft) Fault) → I (draft_of r d) (n + 1) (at + length l.bytes + 1)
          → ((e : Draft) → I e (n + 1) (at + length l.bytes + 1) → Reached I (program e (at + length l.bytes + 1) (n + 1) ls))
          → Reached I (follow r d (n + 1) (at + length l.bytes + 1) λ e. program e (at + length l.bytes + 1) (n + 1) ls)
      go (Ok (Some e)) k f = f e k
      go (Ok None) k f = k
      go (Err fault) k f = tt

  module _ (first : (s : List ℕ) (f : FirstLine) → first_line s (record { line = 1; column = 0 }) ≡ Ok f
      → (n : ℕ) → I (blank f.bound (code_of f.word)) 1 (n + 1)) where
    line_1_reached : (ls : List Row) → Reached I (from_line1 ls)
    unfolding from_line1 opened whole
    line_1_reached [] = tt
    line_1_reached (l ∷ ls) = read (whole_line l) (first_line l.bytes (record { line = 1; column = 0 })) refl
      where
        begins : (r : Result FirstLine Fault) → first_line l.bytes (record { line = 1; column = 0 }) ≡ r
            → Reached I (opened r λ f. program (blank f.bound (code_of f.word)) (length l.bytes + 1) 1 ls)
        begins (Ok f) e = program_reached (blank f.bound (code_of f.word)) _ 1 ls (first l.bytes f e (length l.bytes))
        begins (Err fault) e = tt

        read : (g : Result (Unit {0}) Fault) (r : Result FirstLine Fault) → first_line l.bytes (record { line = 1; column = 0 }) ≡ r
            → Reached I (whole g (opened r λ f. program (blank f.bound (code_of f.word)) (length l.bytes + 1) 1 ls))
        read (Ok _) r e = begins r e
        read (Err fault) r e = tt

    pub reached : (text : List ℕ) → Reached I (program_of text)
    unfolding program_of
    reached text = go (within 1 max_text (length text))
      where
        go : (b : Bool) → Reached I (cond b (from_line1 (lines text)) (Err (refusal_of TextSize)))
        go true = line_1_reached (lines text)
        go false = tt

-- the size of a text that reaches `lemmas`
pub reached_size : (text : List ℕ) → Reached (λ d n at. length text ≤ max_text) (program_of text)
unfolding program_of
reached_size text = go (within 1 max_text (length text)) refl
  where
    all : (r : Result ProgramPart Refusal) → length text ≤ max_text → Reached (λ d n at. length text ≤ max_text) r
    all (Ok part) h = h
    all (Err refusal) h = tt

    go : (b : Bool) → within 1 max_text (length text) ≡ b
        → Reached (λ d n at. length text ≤ max_text) (cond b (from_line1 (lines text)) (Err (refusal_of TextSize)))
    go true e = all (from_line1 (lines text)) (is_within 1 max_text (length text) e).1
    go false e = tt

-- its counts are in the limits, and each line has its LF
pub reached_within : (text : List ℕ) → Reached (λ d n at. Within d × (n ≤ at)) (program_of text)
reached_within text =
    reached (λ d n at. Within d × (n ≤ at))
    (λ d l at n h. (line_kept d l (n + 1) h.0, omega (arith, h.1)))
    (λ s f e n. (blank_within f.bound (code_of f.word), omega arith))
    text

pub reached_at : (I : Draft → ℕ → ℕ → Type 0) (r : Result ProgramPart Refusal) (part : ProgramPart) → Reached I r → r ≡ Ok part
    → I part.draft part.line part.at
reached_at I r part h e = subst (λ (x : Result ProgramPart Refusal). Reached I x) e h
