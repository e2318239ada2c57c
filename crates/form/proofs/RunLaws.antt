-- 'runs are the same': two jobs of one program have the same runs where the lemmas of one are the filed lemmas of the other.
use mathlib.Core.Path.{◌≡◌, refl, sym, ap, ◌∙◌, subst}
use mathlib.Core.Bool.{Bool, true, false}
use mathlib.Core.List.{List, [], ◌∷◌}
use Prim.Native.Nat.{ℕ, suc}
use lib.Dec.{eqb}
use lib.ListN.{length}
use Rattle.lists.specs.Tests.{every, all}
use Rattle.lists.proofs.TestLaws.{all_at, all_of, all_same}
use Rattle.order.proofs.MemberLaws.{in_tab, tab_in}
use Rattle.job.specs.declared.Job.{Job}
use Rattle.job.specs.declared.Program.{Program}
use Rattle.job.specs.Literals.{Clause, any_true}
use Rattle.job.specs.Table.{lemma, r}
use Rattle.job.specs.Meaning.{State, Run, state_at, in_state, lemma_true, holds_at, is_run}
use Rattle.form.specs.Lemmas.{filed}
use Rattle.form.specs.Form.{lemmas_of}
use Rattle.form.proofs.FiledLaws.{AllTrue, true_filed, filed_true}

-- ---- every lemma true in a state

module _ (J : Job) (s : State) where
  abbrev values : ℕ → Bool
  values = in_state J.program s

  all_true : all J.lemmas (lemma_true J s) ≡ true → AllTrue values (lemmas_of J)
  unfolding lemma_true
  all_true h c i =
      let (k, l, e) = in_tab (lemma J) J.lemmas c i in
      ap (any_true values) e ∙ all_at (lemma_true J s) J.lemmas h k l

  true_all : AllTrue values (lemmas_of J) → all J.lemmas (lemma_true J s) ≡ true
  unfolding lemma_true
  true_all h = all_of (lemma_true J s) J.lemmas λ k l. h (lemma J k) (tab_in (lemma J) J.lemmas k l)

equal_tests : (a b : Bool) → (a ≡ true → b ≡ true) → (b ≡ true → a ≡ true) → a ≡ b
equal_tests true b f g = sym (f refl)
equal_tests false true f g = g refl
equal_tests false false f g = refl

module _ (J K : Job) (program : K.program ≡ J.program) (lemmas : lemmas_of K ≡ filed (lemmas_of J)) where
  lemmas_true_lem : (s : State) → all K.lemmas (lemma_true K s) ≡ all J.lemmas (lemma_true J s)
  lemmas_true_lem s = equal_tests _ _ there back
    where
      moved : (P Q : Program) → P ≡ Q → (a : List Clause) → AllTrue (in_state P s) a → AllTrue (in_state Q s) a
      moved P Q e a h = subst (λ (R : Program). AllTrue (in_state R s) a) e h

      there : all K.lemmas (lemma_true K s) ≡ true → all J.lemmas (lemma_true J s) ≡ true
      there h =
          let k : AllTrue (values K s) (filed (lemmas_of J)) = subst (AllTrue (values K s)) lemmas (all_true K s h) in
          true_all J s (filed_true (values J s) (lemmas_of J) (moved K.program J.program program (filed (lemmas_of J)) k))

      back : all J.lemmas (lemma_true J s) ≡ true → all K.lemmas (lemma_true K s) ≡ true
      back h =
          let k = true_filed (values J s) (lemmas_of J) (all_true J s h) in
          true_all K s (subst (AllTrue (values K s)) (sym lemmas) (moved J.program K.program (sym program) (filed (lemmas_of J)) k))

  holds_same : (R : Run) (t : ℕ) → holds_at K R t ≡ holds_at J R t
  unfolding holds_at
  holds_same R t = rw (lemmas_true_lem (state_at R t), program)

  pub runs_same : (R : Run) → is_run K R ≡ is_run J R
  unfolding is_run
  runs_same R =
      ap (λ n. every (eqb (length R.states) (suc n) ∷ eqb (length R.turns) n ∷ all (suc n) (holds_at K R) ∷ []))
      (ap (λ (P : Program). r P) program)
      ∙ ap (λ b. every (eqb (length R.states) (suc (r J.program)) ∷ eqb (length R.turns) (r J.program) ∷ b ∷ []))
      (all_same (suc (r J.program)) (holds_at K R) (holds_at J R) (λ t l. holds_same R t))
