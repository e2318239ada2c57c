-- `lemma_lines` reads line by line: what is left from here gives the answer of the whole.
use Rattle.std.specs.Prelude.{Result, Err}
use Rattle.std.proofs.Common.{rules}
use Rattle.job.specs.declared.Job.{Job}
use Rattle.job.specs.declared.refusal.Refusal.{Refusal}
use Rattle.parse.proofs.LemmaLaws.{lines_none, lines_next, line_same}
use Rattle.parse.proofs.AnswerLaws.{Holds}
use Rattle.parse.specs.Lemmas.{lemma_lines}
use Rattle.parse.specs.Answers.{then}
use Rattle.scan.proofs.LineLaws.{lines_few}
use Rattle.scan.specs.Lines.{Row, lines}
use Rattle.scan.specs.Iterating.{row_of, lines_left}
use lib.ListN.{length, drop, length-drop}
use mathlib.Core.List.{List}
use mathlib.Core.Logic.{inl}
use native.Mathlib.Omega.{arith}
use Prim.Native.Nat.{◌+◌, ◌≤◌}
use mathlib.Core.Path.{◌≡◌, refl, ◌∙◌, sym, ap, subst⁻¹}
use Rattle.parse.proofs.lemma_lines.Goals as goal
use Rattle.parse.proofs.lemma_lines.Goals.{In-Some, After-lemma_line}

-- there are no more lines than bytes
few : (c : In-Some) → let it = c.next.new.self in
    (it.count + length (lines_left it.iter) ≤ length (lines (drop c.args.from c.args.text.now)))
    × (c.args.before + it.count ≤ length c.args.text.now)
few c =
    let s = c.args.text.now in
    let one = ap (λ (ls : List Row). length ls) c.in-Some.ensures.steps.0 in
    let next = c.in-Some.ensures.steps.2 in
    let i = c.loop-i.invariant.2 in (
      omega (arith, one, next, i.few),
      omega (arith, one, next, i.few, c.requires.behind, lines_few (drop c.args.from s), length-drop c.args.from s),
    )

-- the program stays as it was
same : (c : After-lemma_line) → Holds (λ (x : Job). x.program ≡ c.args.start.program) c.lemma_line.result
same c =
    let P = c.args.start.program in
    subst⁻¹ (λ (r : Result Job Refusal). Holds (λ (x : Job). x.program ≡ P) r) c.lemma_line.ensures
    (line_same P c.loop-i.job _ _ c.loop-i.invariant.2.program)

-- what is left before the line, by the line's answer
turn : (c : After-lemma_line) → let a = c.args in
    lemma_lines a.start a.before (lines (drop a.from a.text.now))
    ≡ then c.lemma_line.result λ x. lemma_lines x (a.before + c.in-Some.i + 1) (lines_left c.next.new.self.iter)
turn c =
    let l = c.loop-i in
    let n = c.args.before + c.in-Some.i in
    let at : c.args.before + l.i-iterator.count ≡ n = ap (λ k. c.args.before + k) (sym c.in-Some.ensures.steps.1) in
    l.invariant.2.same ∙ ap (λ k. lemma_lines l.job k (lines_left l.i-iterator.iter)) at
    ∙ ap (lemma_lines l.job n) c.in-Some.ensures.steps.0
    ∙ lines_next l.job n (row_of c.in-Some.line) (lines_left c.next.new.self.iter) c.lemma_line.result c.lemma_line.ensures

pub loop-i-init : goal.loop-i-init
loop-i-init c =
    let a = c.args in
    let given = c.into_iter-i-iterator in
    let all : lines_left given.result.iter ≡ lines (drop a.from a.text.now) = ap (λ it. lines_left it.iter) given.ensures.into_iter_gives
    ∙ ap lines_left c.enumerate-i-items.ensures.source ∙ c.new.ensures ∙ ap lines c.rest.ensures in
    let none : given.result.count ≡ 0 = ap (λ it. it.count) given.ensures.into_iter_gives ∙ c.enumerate-i-items.ensures.count in
    let short : given.result.count + length (lines_left given.result.iter) ≤ length (lines (drop a.from a.text.now)) =
    omega (arith, none, ap (λ (ls : List Row). length ls) all) in
    let first : a.before ≡ a.before + given.result.count = omega (arith, none) in (
      (tt, tt, inl (omega (arith, short, c.requires.size, lines_few (drop a.from a.text.now), length-drop a.from a.text.now))),
      tt,
      record {
        few = short;
        program = refl;
        same = ap (lemma_lines a.start a.before) (sym all) ∙ ap (λ n. lemma_lines a.start n (lines_left given.result.iter)) first;
      },
    )

pub overflow_add-before : goal.overflow_add-before
overflow_add-before c =
    let f = (few (goal.at.overflow_add-before c).In-Some).1 in
    omega (arith, f, c.in-Some.ensures.steps.1, c.in-Some.ensures.steps.2, c.requires.size)

pub overflow_add-before-in-loop-i : goal.overflow_add-before-in-loop-i
overflow_add-before-in-loop-i c =
    let f = (few (goal.at.overflow_add-before-in-loop-i c).In-Some).1 in
    omega (arith, f, c.in-Some.ensures.steps.1, c.in-Some.ensures.steps.2, c.requires.size)

pub returns-in_err-job : goal.returns-in_err-job
unfolding then
returns-in_err-job c =
    let from_here = turn (goal.at.returns-in_err-job c).After-lemma_line in
    let told : c.from_residual.result ≡ Err c.in_err-job.field-0.0 = search rules in
    told ∙ sym (rw c.in_err-job.was at from_here)

pub loop-i-preserved : goal.loop-i-preserved
unfolding then
loop-i-preserved c =
    let from_here = turn (goal.at.loop-i-preserved c).After-lemma_line in
    let kept = same (goal.at.loop-i-preserved c).After-lemma_line in
    let a = c.args in
    let it = c.next.new.self in
    let steps = c.in-Some.ensures.steps in
    let f = few (goal.at.loop-i-preserved c).In-Some in
    let after : a.before + c.in-Some.i + 1 ≡ a.before + it.count = omega (arith, steps.1, steps.2) in (
      (tt, tt, inl (omega (arith, f.0, c.requires.size, lines_few (drop a.from a.text.now), length-drop a.from a.text.now))),
      tt,
      record {
        few = f.0;
        program = rw c.in_ok-job.was at kept;
        same = (rw c.in_ok-job.was at from_here) ∙ ap (λ n. lemma_lines c.in_ok-job.job n (lines_left it.iter)) after;
      },
    )

pub returns : goal.returns
returns c =
    let l = c.loop-i in
    sym (l.invariant.2.same ∙ ap (lemma_lines l.job (c.args.before + l.i-iterator.count)) c.in-None.ensures.steps.0.0
    ∙ lines_none l.job (c.args.before + l.i-iterator.count))
