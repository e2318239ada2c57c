-- `link` goes step by step: the steps passed are linked, and a refusal stays.
use Rattle.std.specs.Prelude.{Err}
use Rattle.std.proofs.Common.{rules}
use Rattle.parse.proofs.LabelLaws.{link_none, link_next, link_stays}
use native.Mathlib.Omega.{arith}
use Prim.Native.Nat.{◌+◌}
use mathlib.Core.Path.{◌≡◌, ◌∙◌, sym}
use Rattle.parse.proofs.link.Goals as goal

pub loop-k-init : goal.loop-k-init
loop-k-init c = link_none c.args.draft.now

pub returns-in_err-program : goal.returns-in_err-program
returns-in_err-program c =
    let d = c.args.draft.now in
    let q = c.in_err-program.field-0.0 in
    let here = link_next d c.loop-k.k c.loop-k.program c.loop-k.invariant ∙ sym c.link_step.ensures ∙ c.in_err-program.was in
    let told : c.from_residual.result ≡ Err q = search rules in
    told ∙ sym (link_stays d (c.loop-k.k + 1) d.program.steps q here (omega arith))

pub loop-k-preserved : goal.loop-k-preserved
loop-k-preserved c =
    link_next c.args.draft.now c.loop-k.k c.loop-k.program c.loop-k.invariant ∙ sym c.link_step.ensures ∙ c.in_ok-program.was
