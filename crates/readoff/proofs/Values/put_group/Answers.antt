-- Where a time reads, the last step of each process that stands is the one that stands; two stores, the bits and a store behind them.
use Rattle.std.proofs.Common.{◌≡◌, rules, sym, ap, ◌∙◌, ℕ, ◌+◌, ◌-◌, List, [], ◌∷◌, ◌++◌, length, set, eqb, arith}
use lib.ListN.{take, drop, length-set, length-drop}
use lib.Seq.{get_or-drop, length-take-le}
use Rattle.lists.specs.Rows.{tab}
use Rattle.lists.specs.Writing.{write}
use Rattle.lists.proofs.RowLaws.{length_tab, tab_same}
use Rattle.job.specs.Table.{A, B, m, n, w}
use Rattle.job.specs.ReadOff.{byte}
use Rattle.job.specs.Satisfaction.{value_at}
use Rattle.job.proofs.FitnessLaws.{fit_sizes}
use Rattle.readoff.specs.Standing.{standing_in, front, number}
use Rattle.readoff.proofs.SizeLaws.{items_within}
use Rattle.readoff.proofs.StandingLaws.{some_weaker, length_items}
use Rattle.readoff.proofs.ReadingLaws.{part_write, whole_group, group_is}
use Rattle.readoff.proofs.Values.put_group.Goals as goal
use Rattle.readoff.proofs.Values.put_group.Goals.{After-items-items}

long : (c : After-items-items) → length c.items-items.result.now ≡ w c.args.self.now.fit.now.job.program
long c =
    let v = c.args.self.now in
    let within = items_within v.fit.now.job.program c.args.t c.requires.time in
    ap (λ (xs : List ℕ). length xs) c.items-items.ensures
    ∙ length_items v.fit.now.job.program v.bytes.now c.args.t (omega (arith, v.enough))

pub number-requires : goal.number-requires
number-requires c =
    let fit = c.args.self.now.fit.now in
    some_weaker _ _ _ (fit_sizes fit.job fit.fits).steps c.last_step.ensures.below

pub number-requires-2 : goal.number-requires-2
number-requires-2 c =
    let fit = c.args.self.now.fit.now in
    some_weaker _ _ _ (fit_sizes fit.job fit.fits).steps c.last_step-2.ensures.below

pub split_at-requires : goal.split_at-requires
split_at-requires c = omega (arith, long (goal.at.split_at-requires c).After-items-items)

pub returns : goal.returns
returns c =
    let v = c.args.self.now in
    let p = v.fit.now.job.program in
    let items = c.items-items.result.now in
    let e = c.items-items.ensures in
    let first : List ℕ = set (set c.args.part.now 0 c.number.result) 1 c.number-2.result in
    let room : length first ≡ n p + 3 = omega (
      arith,
      c.requires.room,
      length-set (set c.args.part.now 0 c.number.result) 1 c.number-2.result,
      length-set c.args.part.now 0 c.number.result,
    ) in
    let wide : length (take (2 + n p - 2) (drop 2 first)) ≡ n p =
    length-take-le (2 + n p - 2) (drop 2 first) (omega (arith, length-drop 2 first)) ∙ omega arith in
    let behind = c.split_at.result.1.now in
    let row = c.put_bits.ensures (value_at behind) (λ x l b post. search rules) in
    let bits = row ∙ ap (λ k. tab k (λ x. byte (value_at behind x))) wide
    ∙ tab_same (n p) _ _ (λ x l. ap (λ (xs : List ℕ). byte (value_at xs x)) c.split_at.ensures.back
    ∙ ap (λ v. byte (eqb v 1)) (get_or-drop (m p) items x 0)) in
    let count = length_tab (n p) (λ x. byte (value_at items (m p + x))) in
    let put = part_write first 2 (2 + n p - 2) c.put_bits.new.row (ap length bits ∙ count ∙ omega arith) ∙ ap (write first 2) bits in
    let whole = whole_group c.args.part.now c.number.result c.number-2.result c.turn_byte.result _ (omega (arith, c.requires.room, count))
    _ put (n p) (sym count) in
    let a = c.number.ensures ∙ ap number (c.last_step.ensures.last ∙ ap (λ (xs : List ℕ). front (standing_in p xs A (m p))) e) in
    let b = c.number-2.ensures ∙ ap number (c.last_step-2.ensures.last ∙ ap (λ (xs : List ℕ). front (standing_in p xs B (m p))) e) in
    whole
    ∙ ap (λ (xs : List ℕ). (c.number.result ∷ c.number-2.result ∷ tab (n p) λ x. byte (value_at xs (p.steps + x)))
    ++ (c.turn_byte.result ∷ [])) e
    ∙ group_is p v.bytes.now c.args.t c.requires.time v.enough c.requires.reads _ _ _ a b c.turn_byte.ensures
