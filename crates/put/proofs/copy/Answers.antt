-- One byte more is the same, and in the end all are.
use Rattle.std.proofs.Common.{sym, ap, ◌∙◌, [], ◌∷◌, ◌++◌, get_or, arith}
use Rattle.std.proofs.lemmas.List.{take_more, take_more_set, take_all}
use Rattle.put.proofs.copy.Goals as goal

pub loop-i-preserved : goal.loop-i-preserved
loop-i-preserved c =
    let o = c.loop-i in
    let s = c.args.from.now in
    take_more_set o.to o.i (get_or s o.i 0) (omega (arith, c.requires))
    ∙ ap (λ xs. xs ++ (get_or s o.i 0 ∷ [])) o.invariant ∙ sym (take_more s o.i 0 (omega (arith, c.requires)))

pub returns : goal.returns
returns c =
    let o = c.loop-i in
    let s = c.args.from.now in
    sym (take_all o.i o.to (omega arith)) ∙ o.invariant ∙ take_all o.i s (omega (arith, c.requires))
