-- Line 1, as it is answered, and the loop over the lines behind it.
use Rattle.std.specs.Prelude.{Err, [], ◌∷◌}
use Rattle.std.proofs.Common.{rules}
use Rattle.program.proofs.ProgramLaws.{placed_ok, placed_err, line_1}
use Rattle.program.proofs.DraftLaws.{Within, blank_within}
use Rattle.program.specs.declared.Draft.{Draft}
use Rattle.lines.specs.FirstLine.{code_of}
use Rattle.program.specs.Draft.{blank}
use Rattle.program.specs.Program.{opened, whole, from_line1, program}
use Rattle.scan.specs.Lines.{lines, size}
use Rattle.scan.specs.Iterating.{row_of, lines_left}
use Rattle.scan.proofs.LineLaws.{lines_size}
use Prim.Native.Nat.{◌+◌}
use lib.ListN.{length}
use native.Mathlib.Omega.{arith}
use mathlib.Core.Path.{◌≡◌, refl, sym, ap, ◌∙◌, subst⁻¹}
use Rattle.program.proofs.from_line_1.Goals as goal
use Rattle.program.proofs.from_line_1.Goals.{In-Some}

-- the text is line 1 and what the iterator has left
cut_at : (c : In-Some) → lines c.args.text.now ≡ row_of c.in-Some.line ∷ lines_left c.next.new.self
cut_at c = sym c.new-lines.ensures ∙ c.in-Some.ensures.steps

pub returns-in_default : goal.returns-in_default
unfolding from_line1
returns-in_default c =
    let none : lines c.args.text.now ≡ [] = sym c.new-lines.ensures ∙ c.in_default.ensures.steps.0 in
    rw (none, c.into.ensures)

pub returns-in_err-at_line : goal.returns-in_err-at_line
unfolding from_line1 whole
returns-in_err-at_line c =
    let w = c.in_err-at_line.field-0.0 in
    let (fault, was, is) = placed_err 1 c.line.result w (sym c.at_line.ensures ∙ c.in_err-at_line.was) in
    let told : c.from_residual.result ≡ Err w = search rules in
    let all = line_1 (row_of c.in-Some.line) (lines_left c.next.new.self) c.line.result _ c.line.ensures refl in
    let here = ap from_line1 (cut_at (goal.at.returns-in_err-at_line c).In-Some) in
    told ∙ ap Err (sym is) ∙ sym (here ∙ rw was at all)

pub returns-in_err-first : goal.returns-in_err-first
unfolding whole opened
returns-in_err-first c =
    let w = c.in_err-first.field-0.0 in
    let ok = placed_ok 1 c.line.result tt (sym c.at_line.ensures ∙ c.in_ok-at_line.was) in
    let (fault, was, is) = placed_err 1 c.first_line.result w (sym c.at_line-2.ensures ∙ c.in_err-first.was) in
    let told : c.from_residual-in_err-first.result ≡ Err w = search rules in
    let all = line_1 (row_of c.in-Some.line) (lines_left c.next.new.self) c.line.result c.first_line.result c.line.ensures
    c.first_line.ensures in
    let here = ap from_line1 (cut_at (goal.at.returns-in_err-first c).In-Some) in
    told ∙ ap Err (sym is) ∙ sym (here ∙ rw (ok, was) at all)

pub program_lines-requires-clause-size : goal.program_lines-requires-clause-size
program_lines-requires-clause-size c =
    let all = ap size (cut_at (goal.at.program_lines-requires-clause-size c).In-Some) in
    omega (arith, all, lines_size c.args.text.now, c.requires.size)

pub program_lines-requires-clause-within : goal.program_lines-requires-clause-within
program_lines-requires-clause-within c = (subst⁻¹ Within c.blank-draft.ensures (blank_within _ _)).0

pub program_lines-requires-clause-few : goal.program_lines-requires-clause-few
program_lines-requires-clause-few c = (subst⁻¹ Within c.blank-draft.ensures (blank_within _ _)).1

pub returns : goal.returns
unfolding whole opened
returns c =
    let ok = placed_ok 1 c.line.result tt (sym c.at_line.ensures ∙ c.in_ok-at_line.was) in
    let first = placed_ok 1 c.first_line.result c.in_ok-first.first (sym c.at_line-2.ensures ∙ c.in_ok-first.was) in
    let all = line_1 (row_of c.in-Some.line) (lines_left c.next.new.self) c.line.result c.first_line.result c.line.ensures
    c.first_line.ensures in
    let here = ap from_line1 (cut_at (goal.at.returns c).In-Some) in
    let word : c.blank-draft.result ≡ blank c.in_ok-first.first.bound (code_of c.in_ok-first.first.word) = search rules in
    c.program_lines.ensures
    ∙ ap (λ (d : Draft). program d (length c.in-Some.line.bytes.now + 1) 1 (lines_left c.next.new.self)) word
    ∙ sym (here ∙ rw (ok, first) at all)
