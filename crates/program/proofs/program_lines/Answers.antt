-- `program_lines` reads line by line: what is left from here gives the answer of the whole.
use Rattle.program.proofs.ProgramLaws.{placed_ok, placed_err, program_turn, program_none, follow_more, follow_lemmas, follow_fault}
use Rattle.program.proofs.ProgramLineLaws.{line_kept}
use Rattle.program.proofs.DraftLaws.{Within}
use Rattle.program.specs.ProgramLine.{line_of}
use Rattle.program.specs.Program.{reached, program, follow}
use Rattle.program.specs.declared.Draft.{Draft}
use Rattle.program.specs.declared.ProgramPart.{ProgramPart}
use Rattle.job.specs.declared.refusal.Fault.{Fault}
use Rattle.job.specs.declared.refusal.Refusal.{Refusal}
use Rattle.std.specs.Prelude.{Option, Result, Ok, Err}
use Rattle.scan.specs.Lines.{size}
use Rattle.job.specs.Limits.{max_text}
use Rattle.scan.specs.Iterating.{row_of, lines_left}
use lib.ListN.{length}
use native.Mathlib.Omega.{arith}
use Prim.Native.Nat.{ℕ, ◌+◌, ◌≤◌}
use mathlib.Core.Path.{◌≡◌, refl, ◌∙◌, sym, ap, subst⁻¹}
use Rattle.std.proofs.Common.{rules}
use Rattle.program.proofs.program_lines.Goals as goal
use Rattle.program.proofs.program_lines.Goals.{In-Some}

-- this line and those behind it are no longer than what was left
shorter : (c : In-Some) → c.loop-line.at + (length c.in-Some.line.bytes.now + 1 + size (lines_left c.next.new.self)) ≤ max_text + 1
shorter c = omega (arith, ap size c.in-Some.ensures.steps, c.loop-line.invariant.size)

-- what the line says
abbrev read : In-Some → Result (Option Draft) Fault
read c = line_of c.loop-line.draft (row_of c.in-Some.line) (c.loop-line.n + 1)

-- where the next begins
abbrev behind : In-Some → ℕ
behind c = c.loop-line.at + (length c.in-Some.line.bytes.now + 1)

abbrev rest : In-Some → Draft → Result ProgramPart Refusal
rest c d = program d (behind c) (c.loop-line.n + 1) (lines_left c.next.new.self)

-- what is left before the line, by what it says
turn : (c : In-Some) → program c.args.start c.args.from 1 (lines_left c.args.lines)
    ≡ follow (read c) c.loop-line.draft (c.loop-line.n + 1) (behind c) (rest c)
turn c =
    let l = c.loop-line in
    l.invariant.same ∙ ap (program l.draft l.at l.n) c.in-Some.ensures.steps
    ∙ program_turn l.draft l.at l.n (row_of c.in-Some.line) (lines_left c.next.new.self) _ (omega arith)

pub loop-line-init : goal.loop-line-init
loop-line-init c =
    let given = c.into_iter-line-iterator.ensures.into_iter_gives in record {
      line_by_line = c.requires.first;
      size = rw given c.requires.size;
      within = (c.requires.within, c.requires.few);
      same = rw given refl;
    }

pub overflow_add-n : goal.overflow_add-n
overflow_add-n c = omega (arith, shorter (goal.at.overflow_add-n c).In-Some, c.loop-line.invariant.line_by_line)

pub overflow_add-at-in-loop-line : goal.overflow_add-at-in-loop-line
overflow_add-at-in-loop-line c = omega (arith, shorter (goal.at.overflow_add-at-in-loop-line c).In-Some)

pub line_of-requires-clause-within : goal.line_of-requires-clause-within
line_of-requires-clause-within c = c.loop-line.invariant.within.0

pub line_of-requires-clause-few : goal.line_of-requires-clause-few
line_of-requires-clause-few c = c.loop-line.invariant.within.1

pub returns-in_err-more : goal.returns-in_err-more
returns-in_err-more c =
    let l = c.loop-line in
    let here = (goal.at.returns-in_err-more c).In-Some in
    let w = c.in_err-more.field-0.0 in
    let (fault, was, is) = placed_err (l.n + 1) c.line_of.result w (sym c.at_line.ensures ∙ c.in_err-more.was) in
    let told : c.from_residual.result ≡ Err w = search rules in
    let ends = follow_fault (read here) l.draft (l.n + 1) (behind here) (rest here) fault (sym was ∙ c.line_of.ensures.more) in
    told ∙ ap Err (sym is) ∙ sym (turn here ∙ ends)

pub returns-then-not-more : goal.returns-then-not-more
returns-then-not-more c =
    let l = c.loop-line in
    let here = (goal.at.returns-then-not-more c).In-Some in
    let was = placed_ok (l.n + 1) c.line_of.result _ (sym c.at_line.ensures ∙ c.in_ok-more.was ∙ ap Ok c.if-not-more.true) in
    let ends = follow_lemmas (read here) l.draft (l.n + 1) (behind here) (rest here) (sym was ∙ c.line_of.ensures.more) in
    ap (λ (d : Draft). Ok (reached (l.n + 1) (behind here) d)) c.line_of.ensures.entered ∙ sym (turn here ∙ ends)

pub loop-line-preserved : goal.loop-line-preserved
loop-line-preserved c =
    let l = c.loop-line in
    let here = (goal.at.loop-line-preserved c).In-Some in
    let was = placed_ok (l.n + 1) c.line_of.result _ (sym c.at_line.ensures ∙ c.in_ok-more.was ∙ ap Ok c.if-not-more.false) in
    let more = follow_more (read here) l.draft (l.n + 1) (behind here) (rest here) (sym was ∙ c.line_of.ensures.more) in record {
      line_by_line = omega (arith, l.invariant.line_by_line);
      size = omega (arith, shorter here);
      within = subst⁻¹ Within c.line_of.ensures.entered (line_kept l.draft (row_of c.in-Some.line) (l.n + 1) l.invariant.within);
      same = turn here ∙ more ∙ ap (rest here) (sym c.line_of.ensures.entered);
    }

pub returns : goal.returns
returns c =
    let l = c.loop-line in
    rw c.at.ensures (sym (l.invariant.same ∙ ap (program l.draft l.at l.n) c.in-None.ensures.steps.0 ∙ program_none l.draft l.at l.n))
