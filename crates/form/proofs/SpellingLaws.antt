-- What the reader makes of a word is spelt as the word.
use mathlib.Core.Path.{◌≡◌, refl, sym, ap, ◌∙◌, subst}
use mathlib.Core.Bool.{Bool, true, false, cond, ◌&&◌}
use mathlib.Core.Logic.{inl, inr}
use mathlib.Core.List.{List, [], ◌∷◌}
use Prim.Native.Nat.{ℕ, suc, ◌+◌, ◌*◌, ◌-◌, ◌≤◌, ◌<◌}
use native.Mathlib.Omega.{arith}
use borrow.Author.Tests.{ne_eqb, eqb-true, lt-ltb, le-ltb, ltb-true}
use Rattle.std.specs.Prelude.{Option, Some, None}
use Rattle.std.specs.Option.{unwrap_or}
use lib.Dec.{eqb, ltb}
use lib.ListN.{length}
use Rattle.lists.specs.Rows.{each, tab, num}
use Rattle.lists.specs.Tests.{every, within}
use Rattle.lists.specs.Places.{passing, first}
use Rattle.lists.specs.Pieces.{starts}
use Rattle.lists.proofs.TestLaws.{is_within, all_at}
use Rattle.lists.proofs.RowLaws.{tab_same}
use Rattle.lists.proofs.PlaceLaws.{first_most, first_accepts, first_same}
use Rattle.job.specs.declared.Job.{Job}
use Rattle.job.specs.declared.Literal.{Literal}
use Rattle.job.specs.Table.{item_of as literal}
use Rattle.scan.specs.Names.{entry_is, lookup}
use Rattle.scan.proofs.NameLaws.{lookup_below}
use Rattle.put.specs.Names.{name_at}
use Rattle.items.specs.Items.{named_at, named_in}
use Rattle.parse.specs.Lemmas.{bare, negated, item_in, signed}
use Rattle.form.specs.Form.{name_of, spelt}
use Rattle.form.proofs.ResultLaws.{found}
use Rattle.form.proofs.WrittenLaws.{Free}

-- the item of a name, 0 where it is unknown
abbrev pub item_of : Job → List ℕ → ℕ
item_of J w = unwrap_or (item_in J w) 0

-- the literal that a word is read as
abbrev pub literal_of : Job → List ℕ → Literal
literal_of J w = literal (signed (negated w) (item_of J (bare w)))

-- a word that is read
abbrev pub Known : Job → List ℕ → Type 0
Known J w = (i : ℕ) × (item_in J (bare w) ≡ Some i)

-- ---- the entry that is found is the word

lookup_is : (names : List ℕ) (count : ℕ) (w : List ℕ) (i : ℕ) → lookup names count w ≡ Some i → entry_is names w i ≡ true
unfolding lookup
lookup_is names count w i e = go (ltb (first count (entry_is names w)) count) refl e
  where
    go : (b : Bool) → ltb (first count (entry_is names w)) count ≡ b → cond b (Some (first count (entry_is names w))) None ≡ Some i
        → entry_is names w i ≡ true
    go true t h =
        let found : first count (entry_is names w) ≡ i = cc in
        subst (λ (k : ℕ). entry_is names w k ≡ true) found (first_accepts (entry_is names w) count (ltb-true _ _ t))
    go false t h = cc

-- filled up with 0 and taken up to the first 0
trimmed : (w : List ℕ) → length w ≤ 4 → Free 0 w → tab (first 4 λ j. eqb (num w j) 0) (num w) ≡ w
unfolding first passing each
trimmed [] h f = refl
trimmed (a ∷ []) h f = rw (ne_eqb a 0 (f a (inl refl)))
trimmed (a ∷ b ∷ []) h f = rw (ne_eqb a 0 (f a (inl refl)), ne_eqb b 0 (f b (inr (inl refl))))
trimmed (a ∷ b ∷ c ∷ []) h f = rw (ne_eqb a 0 (f a (inl refl)), ne_eqb b 0 (f b (inr (inl refl))), ne_eqb c 0 (f c (inr (inr (inl refl)))))
trimmed (a ∷ b ∷ c ∷ d ∷ []) h f =
    rw (
      ne_eqb a 0 (f a (inl refl)),
      ne_eqb b 0 (f b (inr (inl refl))),
      ne_eqb c 0 (f c (inr (inr (inl refl)))),
      ne_eqb d 0 (f d (inr (inr (inr (inl refl))))),
    )
trimmed (a ∷ b ∷ c ∷ d ∷ e ∷ w) h f = absurd (omega arith)

entry_spelt : (names : List ℕ) (w : List ℕ) (i : ℕ) → length w ≤ 4 → Free 0 w → entry_is names w i ≡ true → name_at names i ≡ w
unfolding entry_is name_at
entry_spelt names w i h f e =
    let same : (j : ℕ) → j < 4 → num names (i * 4 + j) ≡ num w j =
    λ j l. eqb-true _ _ (all_at (λ j. eqb (num names (i * 4 + j)) (num w j)) 4 e j l) in
    let ends : (ℕ → Bool) = λ j. eqb (num w j) 0 in
    let n : first 4 (λ j. eqb (num names (i * 4 + j)) 0) ≡ first 4 ends = first_same _ _ 4 (λ j l. ap (λ x. eqb x 0) (same j l)) in
    ap (λ k. tab k (λ j. num names (i * 4 + j))) n
    ∙ tab_same (first 4 ends) _ _ (λ j l. same j (omega (arith, first_most ends 4)))
    ∙ trimmed w h f

-- ---- the item of a name, and a word with its sign

module _ (J : Job) where
  name_spelt : (w : List ℕ) (i : ℕ) → Free 0 w → item_in J w ≡ Some i → (x : ℕ) × (i ≡ suc x) × (name_of J x ≡ w)
  unfolding named_in name_of
  name_spelt w i f e = go (lookup J.labels J.program.steps w) refl (lookup J.names J.program.variables w) refl b.1
    where
      b : (within 1 4 (length w) ≡ true)
          × (named_at (lookup J.labels J.program.steps w) (lookup J.names J.program.variables w) J.program.steps ≡ Some i)
      b = found (within 1 4 (length w)) e

      short : length w ≤ 4
      short = (is_within 1 4 (length w) b.0).1

      go : (g : Option ℕ) → lookup J.labels J.program.steps w ≡ g → (h : Option ℕ) → lookup J.names J.program.variables w ≡ h
          → named_at g h J.program.steps ≡ Some i
          → (x : ℕ) × (i ≡ suc x) × (cond (ltb x J.program.steps) (name_at J.labels x) (name_at J.names (x - J.program.steps)) ≡ w)
      go (Some k) q h r e =
          let here : k + 1 ≡ i = cc in (
            k,
            omega arith,
            rw (lt-ltb k J.program.steps (lookup_below J.labels J.program.steps w k q))
                (entry_spelt J.labels w k short f (lookup_is J.labels J.program.steps w k q)),
          )
      go None q (Some k) r e =
          let here : J.program.steps + k + 1 ≡ i = cc in
          let name : J.program.steps + k - J.program.steps ≡ k = omega arith in (
            J.program.steps + k,
            omega arith,
            rw (le-ltb (J.program.steps + k) J.program.steps (omega arith), name)
                (entry_spelt J.names w k short f (lookup_is J.names J.program.variables w k r)),
          )
      go None q None r e = absurd cc

  -- behind a sign, or without one
  sign_spelt : (negative : Bool) (w : List ℕ) → Free 0 w → (i : ℕ) × (item_in J w ≡ Some i)
      → spelt J (literal (signed negative (item_of J w))) ≡ cond negative (126 ∷ w) w
  unfolding spelt
  sign_spelt negative w f (i, e) = let (x, j, n) = name_spelt w i f e in rw (e, j) (go negative x n)
    where
      go : (negative : Bool) (x : ℕ) → name_of J x ≡ w → spelt J (literal (signed negative (suc x))) ≡ cond negative (126 ∷ w) w
      go true x n = ap (λ l. 126 ∷ l) n
      go false x n = let k : suc x - 1 ≡ x = omega arith in ap (name_of J) k ∙ n

  no_name : (i : ℕ) → item_in J [] ≡ Some i → ⊥
  unfolding named_in within every
  no_name i e = cc

  pub spelt_back : (w : List ℕ) → Free 0 w → Known J w → spelt J (literal_of J w) ≡ w
  unfolding bare starts
  spelt_back [] f (i, e) = absurd (no_name i e)
  spelt_back (b ∷ bs) f z = go (eqb b 126) refl z
    where
      go : (t : Bool) → eqb b 126 ≡ t → (i : ℕ) × (item_in J (cond t bs (b ∷ bs)) ≡ Some i)
          → spelt J (literal (signed (t && true) (item_of J (cond t bs (b ∷ bs))))) ≡ b ∷ bs
      go true e z = sign_spelt true bs (λ c i. f c (inr i)) z ∙ ap (λ c. c ∷ bs) (sym (eqb-true b 126 e))
      go false e z = sign_spelt false (b ∷ bs) f z
