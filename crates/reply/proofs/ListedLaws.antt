-- Where no number is listed twice, a number that is listed has one sign. So a clause has a listed literal exactly when the values that are
-- listed make it true: `all_listed`.
use mathlib.Core.Path.{◌≡◌, refl, sym, ap, ◌∙◌}
use mathlib.Core.Bool.{Bool, true, false, not, true≢false}
use mathlib.Core.Logic.{◌⊎◌, inl, inr}
use mathlib.Core.List.{List, [], ◌∷◌, map}
use Prim.Native.Nat.{ℕ, suc, ◌≤◌, ◌<◌}
use native.Mathlib.Omega.{arith}
use native.Mathlib.Decide.{ℕ_discrete}
use borrow.Author.Tests.{eq-eqb, ne_eqb}
use lib.Dec.{eqb}
use Rattle.lists.specs.Rows.{tab, num}
use Rattle.lists.specs.Places.{first}
use Rattle.lists.proofs.RowLaws.{get_d_tab, tab_same}
use Rattle.lists.proofs.TestLaws.{all_at, all_of}
use Rattle.lists.proofs.PlaceLaws.{row_all, all_row}
use Rattle.job.specs.declared.Literal.{Literal}
use Rattle.job.specs.declared.Literal.TheVariants.{On, Off}
use Rattle.job.specs.Literals.{Clause, place, is_true, any_true, has}
use Rattle.job.specs.InRange.{Below, AllBelow}
use Rattle.job.specs.Satisfaction.{value_at}
use Rattle.job.specs.ReadOff.{byte}
use Rattle.reply.specs.Said.{says}
use Rattle.reply.specs.Reply.{truth, missing}
use Rattle.reply.specs.Acceptance.{times, any_listed, values_listed}

-- ---- a number that is not listed twice: it is not listed, or once without a minus, or once with one

pub record Seen (x : ℕ) (ls : List Literal) (count mark : ℕ) (on off : Bool) : Type 0 where
  pub often : times x ls ≡ count
  pub said : says ls x ≡ mark
  pub plain : has (On x) ls ≡ on
  pub minus : has (Off x) ls ≡ off

module _ (x : ℕ) where
  abbrev pub AnySeen : List Literal → Type 0
  AnySeen ls = Seen x ls 0 0 false false ⊎ (Seen x ls 1 1 true false ⊎ Seen x ls 1 2 false true)

  pub times_other : (l : Literal) (ls : List Literal) → (x ≡ place l → ⊥) → times x (l ∷ ls) ≡ times x ls
  unfolding times
  times_other l ls ne = rw (ne_eqb x (place l) ne)

  pub times_more : (l : Literal) (ls : List Literal) → x ≡ place l → times x (l ∷ ls) ≡ suc (times x ls)
  unfolding times
  times_more l ls e = rw (eq-eqb x (place l) e)

  unseen : Seen x [] 0 0 false false
  unfolding times says has
  unseen = record { often = refl; said = refl; plain = refl; minus = refl }

  pass_by : {count mark : ℕ} {on off : Bool} (l : Literal) (ls : List Literal) → (x ≡ place l → ⊥) → Seen x ls count mark on off
      → Seen x (l ∷ ls) count mark on off
  unfolding says has
  pass_by (On y) ls ne s = record {
    often = times_other (On y) ls ne ∙ s.often;
    said = rw (ne_eqb y x (λ e. ne (sym e))) s.said;
    plain = rw (ne_eqb x y ne) s.plain;
    minus = s.minus;
  }
  pass_by (Off y) ls ne s = record {
    often = times_other (Off y) ls ne ∙ s.often;
    said = rw (ne_eqb y x (λ e. ne (sym e))) s.said;
    plain = s.plain;
    minus = rw (ne_eqb x y ne) s.minus;
  }

  see : (l : Literal) (ls : List Literal) → x ≡ place l → Seen x ls 0 0 false false → AnySeen (l ∷ ls)
  unfolding says has
  see (On y) ls e s = inr (inl (record {
    often = times_more (On y) ls e ∙ ap suc s.often;
    said = rw (eq-eqb y x (sym e));
    plain = rw (eq-eqb x y e);
    minus = s.minus;
  }))
  see (Off y) ls e s = inr (inr (record {
    often = times_more (Off y) ls e ∙ ap suc s.often;
    said = rw (eq-eqb y x (sym e));
    plain = s.plain;
    minus = rw (eq-eqb x y e);
  }))

  pub seen : (ls : List Literal) → times x ls ≤ 1 → AnySeen ls
  seen [] h = inl unseen
  seen (l ∷ ls) h = go (ℕ_discrete x (place l)) (seen ls)
    where
      still : AnySeen ls → (x ≡ place l → ⊥) → AnySeen (l ∷ ls)
      still (inl s) ne = inl (pass_by l ls ne s)
      still (inr (inl s)) ne = inr (inl (pass_by l ls ne s))
      still (inr (inr s)) ne = inr (inr (pass_by l ls ne s))

      new : AnySeen ls → x ≡ place l → AnySeen (l ∷ ls)
      new (inl s) e = see l ls e s
      new (inr (inl s)) e = absurd (omega (arith, h, times_more l ls e, s.often))
      new (inr (inr s)) e = absurd (omega (arith, h, times_more l ls e, s.often))

      go : Dec (x ≡ place l) → (times x ls ≤ 1 → AnySeen ls) → AnySeen (l ∷ ls)
      go (yes e) f = new (f (omega (arith, h, times_more l ls e))) e
      go (no ne) f = still (f (omega (arith, h, times_other l ls ne))) ne

-- ---- the values that are listed

module _ (N : ℕ) (ls : List Literal) (once : (x : ℕ) → times x ls ≤ 1) where
  truth_listed : (x : ℕ) → truth (says ls x) ≡ byte (has (On x) ls)
  truth_listed x = go (seen x ls (once x))
    where
      go : AnySeen x ls → truth (says ls x) ≡ byte (has (On x) ls)
      go (inl s) = rw (s.said, s.plain)
      go (inr (inl s)) = rw (s.said, s.plain)
      go (inr (inr s)) = rw (s.said, s.plain)

  pub values_listed_lem : tab N (λ x. truth (says ls x)) ≡ values_listed N ls
  values_listed_lem = tab_same N (λ x. truth (says ls x)) (λ x. byte (has (On x) ls)) (λ x l. truth_listed x)

  pub said_listed : missing N (says ls) ≡ N → (x : ℕ) → x < N → 1 ≤ times x ls
  unfolding first
  said_listed e x l =
      let said : ℕ → Bool = λ y. not (eqb (says ls y) 0) in
      go (seen x ls (once x)) (all_at said N (all_row said N e) x l)
    where
      go : AnySeen x ls → not (eqb (says ls x) 0) ≡ true → 1 ≤ times x ls
      go (inl s) h = let z : not (eqb 0 0) ≡ true = rw s.said at h in absurd (true≢false (sym z))
      go (inr (inl s)) h = omega (arith, s.often)
      go (inr (inr s)) h = omega (arith, s.often)

  module _ (all : (x : ℕ) → x < N → 1 ≤ times x ls) where
    pub listed_said : missing N (says ls) ≡ N
    unfolding first
    listed_said =
        let said : ℕ → Bool = λ y. not (eqb (says ls y) 0) in
        row_all said N (all_of said N λ x l. go x (seen x ls (once x)) (all x l))
      where
        go : (x : ℕ) → AnySeen x ls → 1 ≤ times x ls → not (eqb (says ls x) 0) ≡ true
        go x (inl s) h = absurd (omega (arith, h, s.often))
        go x (inr (inl s)) h = rw s.said
        go x (inr (inr s)) h = rw s.said

    abbrev vs : List ℕ
    vs = values_listed N ls

    value_listed : (x : ℕ) → x < N → num vs x ≡ byte (has (On x) ls)
    value_listed x l = get_d_tab N (λ y. byte (has (On y) ls)) x 0 l

    true_listed : (l : Literal) → place l < N → is_true (value_at vs) l ≡ has l ls
    true_listed (On x) l = rw (value_listed x l) (go (seen x ls (once x)))
      where
        go : AnySeen x ls → eqb (byte (has (On x) ls)) 1 ≡ has (On x) ls
        go (inl s) = rw s.plain
        go (inr (inl s)) = rw s.plain
        go (inr (inr s)) = rw s.plain
    true_listed (Off x) l = rw (value_listed x l) (go (seen x ls (once x)) (all x l))
      where
        go : AnySeen x ls → 1 ≤ times x ls → not (eqb (byte (has (On x) ls)) 1) ≡ has (Off x) ls
        go (inl s) h = absurd (omega (arith, h, s.often))
        go (inr (inl s)) h = rw (s.plain, s.minus)
        go (inr (inr s)) h = rw (s.plain, s.minus)

    any_listed_lem : (c : Clause) → Below N c → any_true (value_at vs) c ≡ any_listed ls c
    any_listed_lem [] h = refl
    any_listed_lem (l ∷ c) h = rw (true_listed l h.0, any_listed_lem c h.1)

    pub all_listed : (cs : List Clause) → AllBelow N cs → map (any_true (value_at vs)) cs ≡ map (any_listed ls) cs
    all_listed [] h = refl
    all_listed (c ∷ cs) h = rw (any_listed_lem c h.0, all_listed cs h.1)
