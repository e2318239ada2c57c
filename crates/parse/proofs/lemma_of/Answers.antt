-- `lemma_of` reads word by word: what is left from here gives the answer of the whole.
use mathlib.Core.Bool.{Bool}
use mathlib.Core.Path.{◌≡◌, refl, ap, ◌∙◌, sym}
use Prim.Native.Nat.{ℕ, ◌<◌, ◌+◌}
use native.Mathlib.Numerals.{add-one}
use native.Mathlib.Omega.{arith}
use lib.IntN.{ℤ}
use lib.ListN.{length, drop}
use mir.Syntax.{w16}
use mir.ValLaws.{to_z-of_z}
use Rattle.scan.specs.Bytes.{word_at}
use Rattle.fields.specs.declared.Cursor.{Cursor}
use Rattle.items.specs.Items.{item_field}
use Rattle.items.specs.declared.Name.{Name}
use Rattle.parse.specs.Lemmas.{lemma, words, with_item, bare, item_in, signed as signedItem}
use Rattle.parse.proofs.LemmaLaws.{words_space, words_word, words_end, sign_word, word_ends, name_is, name_end}
use Rattle.parse.proofs.LemmaLaws.{item_within, lemma_44, lemma_43, lemma_on}
use Rattle.parse.proofs.lemma_of.Goals as goal
use Rattle.parse.proofs.lemma_of.Goals.{After-read_item}

-- the name is looked up among those of the job
read : (c : After-read_item) → let names = c.from.result in
    let j = c.loop-at.job in
    let s = c.args.s.now in
    let at : Cursor = record { line = c.args.n; column = c.bare_at.result } in
    item_field names.labels.now names.names.now names.steps names.variables s at
    ≡ item_field j.labels j.names j.program.steps j.program.variables s at
read c = let h = c.from.ensures in rw (h.0, h.1, h.2, h.3) refl

-- what the name at at names
named : (c : After-read_item) → let l = c.loop-at in c.read_item.result ≡ item_in l.job (bare (word_at 32 c.args.s.now l.at))
named c =
    let l = c.loop-at in
    let in_line : l.at < length c.args.s.now = omega arith in
    c.read_item.ensures.item ∙ ap (λ (x : Name). x.named) (read c)
    ∙ name_is c.args.s.now l.at in_line c.if-s-at-eq32.false c.bare_at.result c.bare_at.ensures l.job c.args.n _ refl
    l.invariant.3 l.invariant.4

-- where it ends
ends : (c : After-read_item) → let l = c.loop-at in
    c.read_item.new.at.column ≡ l.at + length (word_at 32 c.args.s.now l.at)
ends c =
    let l = c.loop-at in
    let in_line : l.at < length c.args.s.now = omega arith in
    ap (λ (x : Cursor). x.column) c.read_item.ensures.cursor ∙ ap (λ (x : Name). x.at.column) (read c)
    ∙ name_end c.args.s.now l.at in_line c.if-s-at-eq32.false c.bare_at.result c.bare_at.ensures l.job c.args.n _ refl

pub loop-at-preserved-then-s-at-eq32 : goal.loop-at-preserved-then-s-at-eq32
loop-at-preserved-then-s-at-eq32 c =
    let a = c.args in
    let s = a.s.now in
    let l = c.loop-at in
    let i = l.invariant in
    let in_line : l.at < length s = omega arith in
    let next = words_space s l.at in_line c.if-s-at-eq32.true ∙ ap (λ (m : ℕ). words (drop m s)) (sym (add-one l.at)) in
    (omega arith, i.1, i.2, i.3, i.4, i.5 ∙ ap (lemma l.job a.n l.k) next)

pub returns-then-k-ge-NAMES : goal.returns-then-k-ge-NAMES
returns-then-k-ge-NAMES c =
    let a = c.args in
    let s = a.s.now in
    let l = c.loop-at in
    let in_line : l.at < length s = omega arith in
    let here = words_word s l.at _ in_line c.if-s-at-eq32.false refl in
    rw c.at.ensures (lemma_44 l.job a.n l.k _ _ c.if-k-ge-NAMES.true ∙ sym (l.invariant.5 ∙ ap (lemma l.job a.n l.k) here))

pub returns-in_default : goal.returns-in_default
returns-in_default c =
    let a = c.args in
    let s = a.s.now in
    let l = c.loop-at in
    let in_line : l.at < length s = omega arith in
    let is = named (goal.at.returns-in_default c).After-read_item in
    let here = words_word s l.at _ in_line c.if-s-at-eq32.false refl in
    rw c.at-in_default.ensures
    (lemma_43 l.job a.n l.k _ _ c.if-k-ge-NAMES.false (sym is ∙ c.in_default.is) ∙ sym (l.invariant.5 ∙ ap (lemma l.job a.n l.k) here))

pub signed-requires : goal.signed-requires
signed-requires c =
    let l = c.loop-at in
    let is = named (goal.at.signed-requires c).After-read_item in
    let few = item_within l.job (bare (word_at 32 c.args.s.now l.at)) c.in-Some.i (sym is ∙ c.in-Some.is) in
    omega (arith, few.1, l.invariant.3, l.invariant.4)

pub loop-at-smaller : goal.loop-at-smaller
loop-at-smaller c =
    let s = c.args.s.now in
    let l = c.loop-at in
    let in_line : l.at < length s = omega arith in
    let end = ends (goal.at.loop-at-smaller c).After-read_item in
    omega (arith, word_ends s l.at in_line c.if-s-at-eq32.false c.read_item.new.at.column end)

pub loop-at-preserved : goal.loop-at-preserved
loop-at-preserved c =
    let a = c.args in
    let s = a.s.now in
    let l = c.loop-at in
    let in_line : l.at < length s = omega arith in
    let no_space = c.if-s-at-eq32.false in
    let e = c.read_item.new.at.column in
    let end = ends (goal.at.loop-at-preserved c).After-read_item in
    let is = named (goal.at.loop-at-preserved c).After-read_item in
    let i = c.in-Some.i in
    let v = l.invariant in
    let few = c.if-k-ge-NAMES.false in
    let sign = sym (sign_word s l.at in_line no_space) in
    let stored = to_z-of_z w16 _ (record { sfits = c.signed.type_inv }) ∙ c.signed.ensures ∙ ap (λ (b : Bool). signedItem b i) sign in
    let rest = words (drop e s) in (
      (word_ends s l.at in_line no_space e end).1,
      omega (arith, few),
      v.2,
      v.3,
      v.4,
      v.5
          ∙ ap (lemma l.job a.n l.k) (words_word s l.at e in_line no_space end)
          ∙ lemma_on l.job a.n l.k _ _ i few (sym is ∙ c.in-Some.is)
          ∙ ap (λ (z : ℤ). lemma (with_item l.job l.k z) a.n (l.k + 1) rest) (sym stored),
    )

pub returns : goal.returns
returns c =
    let a = c.args in
    let l = c.loop-at in
    let none = words_end a.s.now l.at (omega arith) in
    c.lemma_end.ensures ∙ sym (l.invariant.5 ∙ ap (lemma l.job a.n l.k) none)
