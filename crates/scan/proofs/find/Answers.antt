-- `find` gives the first entry that matches: none of those passed matches, and so far each byte of this one does.
use Rattle.scan.specs.Names.{entry_is, lookup}
use Rattle.lists.specs.Places.{found}
use Rattle.lists.proofs.PlaceLaws.{first_zero, first_none, first_found, found_some, found_none}
use Rattle.lists.proofs.TestLaws.{all_none, all_next, all_fails}
use Rattle.lists.specs.Rows.{num}
use lib.Dec.{eqb}
use borrow.Author.Tests.{eq-eqb, ne_eqb}
use native.Mathlib.Omega.{arith}
use mathlib.Core.List.{List, [], ◌∷◌}
use mathlib.Core.Bool.{Bool, true}
use mathlib.Core.Path.{◌≡◌, refl, sym, ap, ◌∙◌}
use Prim.Native.Nat.{ℕ, zero, suc, ◌+◌, ◌*◌, ◌<◌}
use Rattle.scan.proofs.find.Goals as goal

-- byte m of entry i is byte m of the word
abbrev Same : List ℕ → List ℕ → ℕ → ℕ → Bool
Same names w i m = eqb (num names (i * 4 + m)) (num w m)

-- byte m of the four that are compared is byte m of the word
taken : (a b c d : ℕ) (w : List ℕ) (m : ℕ) → m < 4 → a ≡ num w 0 → b ≡ num w 1 → c ≡ num w 2 → d ≡ num w 3
    → num (a ∷ b ∷ c ∷ d ∷ []) m ≡ num w m
taken a b c d w zero l e f g h = e
taken a b c d w (suc zero) l e f g h = f
taken a b c d w (suc (suc zero)) l e f g h = g
taken a b c d w (suc (suc (suc zero))) l e f g h = h
taken a b c d w (suc (suc (suc (suc m)))) l e f g h = absurd (omega arith)

pub entries-init : goal.entries-init
entries-init c = first_zero (entry_is c.args.names.now _)

pub loop-j-init : goal.loop-j-init
loop-j-init c = let a = c.args in all_none (Same a.names.now a.word.now c.entries.i)

pub entries-preserved : goal.entries-preserved
unfolding entry_is
entries-preserved c =
    let a = c.args in
    let i = c.entries.i in
    let w = a.word.now in
    let byte = taken _ _ _ _ w c.loop-j.j (omega arith) c.get_or.ensures c.get_or-2.ensures c.get_or-3.ensures c.get_or-4.ensures in
    let other = ne_eqb _ _ (λ e. c.if-entry_at-bytes.true (c.entry_at.ensures ∙ e ∙ sym byte)) in
    first_none (entry_is a.names.now w) i c.entries.invariant (all_fails (Same a.names.now w i) c.loop-j.j 4 (omega arith) other)

pub loop-j-preserved : goal.loop-j-preserved
loop-j-preserved c =
    let a = c.args in
    let same = Same a.names.now a.word.now c.entries.i in
    let w = a.word.now in
    let byte = taken _ _ _ _ w c.loop-j.j (omega arith) c.get_or.ensures c.get_or-2.ensures c.get_or-3.ensures c.get_or-4.ensures in
    let equal = sym c.entry_at.ensures ∙ c.if-entry_at-bytes.false ∙ byte in
    all_next same c.loop-j.j true c.loop-j.invariant (sym (eq-eqb _ _ equal)) refl

pub returns-after-loop-j-clause-found : goal.returns-after-loop-j-clause-found
unfolding lookup entry_is
returns-after-loop-j-clause-found c =
    let a = c.args in
    let i = c.entries.i in
    let matches = entry_is a.names.now a.word.now in
    let whole : c.loop-j.j ≡ 4 = omega arith in
    let here = first_found matches i a.count c.entries.invariant (rw whole at c.loop-j.invariant) (omega arith) in
    sym (ap (found a.count) here ∙ found_some a.count i (omega arith))

pub returns-after-entries-clause-found : goal.returns-after-entries-clause-found
unfolding lookup
returns-after-entries-clause-found c =
    let a = c.args in
    let matches = entry_is a.names.now a.word.now in
    let end : c.entries.i ≡ a.count = omega arith in
    sym (ap (found a.count) (rw end at c.entries.invariant) ∙ found_none a.count)
