-- `fit::lemmas::item_fits` tests the place of an item.
use Rattle.std.proofs.Common.{rules, ◌≡◌, ◌∙◌, nat_abs}
use Rattle.lists.specs.Tests as Tests
use Rattle.lists.specs.Tests.{within}
use Rattle.fit.proofs.Signed.{within_abs}
use Rattle.fit.proofs.lemmas.item_fits.Goals as goal

pub returns : goal.returns
unfolding within Tests.every
returns c = let a = c.args in
    let place : c.contains.result ≡ within 1 a.w (nat_abs a.item) = search rules in
    place ∙ within_abs a.w a.item
