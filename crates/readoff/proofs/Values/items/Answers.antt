-- Each row of items stands within the values.
use Rattle.std.proofs.Common.{◌≡◌, ap, ◌+◌, ◌-◌, ◌*◌, arith}
use Rattle.job.specs.Table.{w}
use Rattle.job.proofs.FitnessLaws.{fit_sizes}
use Rattle.readoff.specs.Standing.{items_in}
use Rattle.readoff.proofs.SizeLaws.{items_within, item_row_most}
use Rattle.readoff.proofs.Values.items.Goals as goal

pub overflow_mul-at : goal.overflow_mul-at
overflow_mul-at c =
    let fit = c.args.self.now.fit.now in
    let e = ap (λ w. c.args.t * w) c.width.ensures.width in
    omega (arith, e, item_row_most fit.job.program (fit_sizes fit.job fit.fits) c.args.t c.requires)

pub overflow_add-result : goal.overflow_add-result
overflow_add-result c =
    let fit = c.args.self.now.fit.now in
    let e = ap (λ w. c.args.t * w) c.width.ensures.width in
    omega (arith, e, item_row_most fit.job.program (fit_sizes fit.job fit.fits) c.args.t c.requires)

pub slice_bounds-result-end : goal.slice_bounds-result-end
slice_bounds-result-end c =
    let v = c.args.self.now in
    let p = v.fit.now.job.program in
    let e = ap (λ w. c.args.t * w) c.width.ensures.width in
    omega (arith, c.width-2.ensures.width, v.enough, items_within p c.args.t c.requires)

pub returns : goal.returns
unfolding items_in
returns c =
    let p = c.args.self.now.fit.now.job.program in
    let vs = c.args.self.now.bytes.now in
    let from = ap (λ w. c.args.t * w) c.width.ensures.width in
    let long : c.args.t * c.width.result + c.width-2.result - c.args.t * c.width.result ≡ w p = omega (arith, c.width-2.ensures.width) in
    rw (long, from)
