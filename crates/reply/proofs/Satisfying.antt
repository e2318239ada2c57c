-- A reply is accepted exactly when its values satisfy the clauses; the buffer then holds these values.
use mathlib.Core.Path.{◌≡◌, refl, ap}
use mathlib.Core.Bool.{Bool, true, false, not, cond, false≢true}
use mathlib.Core.Logic.{◌⊎◌, inl, inr}
use mathlib.Core.List.{List, [], ◌∷◌, map}
use Prim.Native.Nat.{ℕ, suc, ◌≤◌, ◌<◌}
use native.Mathlib.Omega.{arith}
use borrow.Author.Tests.{ltb-true, ltb-false, lt-ltb, le-ltb, eq-eqb, le-leb}
use lib.Dec.{ltb, leb}
use lib.ListN.{length, length-map}
use Rattle.lists.specs.Rows.{num}
use Rattle.lists.specs.Tests.{every}
use Rattle.lists.specs.Places.{passing}
use Rattle.lists.proofs.Logic.{split}
use Rattle.lists.proofs.TestLaws.{pass, passed, all_of}
use Rattle.job.specs.declared.Job.{Job}
use Rattle.job.specs.Literals.{any_true}
use Rattle.job.specs.Numbering.{total}
use Rattle.job.specs.Clauses.{clauses}
use Rattle.job.specs.Fitness.{fit}
use Rattle.job.specs.Satisfaction.{value_at, are_values, satisfies, false_clause}
use Rattle.reply.specs.Reply.{Read, refusal, values, values_read}
use Rattle.reply.specs.Check.{accepted, refused, max_reply, weighed, judged, holding, checked}
use Rattle.reply.proofs.ReplyLaws.{Values, read_values}

-- of a fit job, a reply whose values satisfy its clauses
pub record Satisfying (J : Job) (reply work buffer : List ℕ) : Type 0 where
  pub fits : fit J ≡ true
  pub room : total J.program ≤ length work
  pub short : length reply ≤ max_reply
  pub said : List ℕ
  pub reads : values_read (total J.program) reply ≡ values said
  pub satisfied : satisfies J said ≡ true
  pub holds : buffer ≡ holding (total J.program) work said

-- ---- no clause is false

all_pass : (bs : List Bool) → length bs ≤ passing bs → every bs ≡ true
unfolding every passing
all_pass [] h = refl
all_pass (true ∷ []) h = refl
all_pass (false ∷ bs) h = absurd (omega arith)
all_pass (true ∷ c ∷ bs) h = all_pass (c ∷ bs) (omega arith)

pass_all : (bs : List Bool) → every bs ≡ true → passing bs ≡ length bs
unfolding every passing
pass_all [] h = refl
pass_all (true ∷ []) h = refl
pass_all (false ∷ []) h = absurd (false≢true h)
pass_all (false ∷ c ∷ bs) h = absurd (false≢true h)
pass_all (true ∷ c ∷ bs) h = ap suc (pass_all (c ∷ bs) h)

module _ (J : Job) (vs : List ℕ) where
  abbrev tests : List Bool
  tests = map (any_true (value_at vs)) (clauses J)

  pub all_satisfied : Values (total J.program) vs → every (map (any_true (value_at vs)) (clauses J)) ≡ true → satisfies J vs ≡ true
  unfolding satisfies are_values
  all_satisfied v h =
      let N = total J.program in
      let small = all_of (λ x. leb (num vs x) 1) N (λ x l. le-leb (num vs x) 1 (v.small x l)) in
      pass _ (pass _ (eq-eqb (length vs) N v.long, (small, tt)), (h, tt))

  no_false : Values (total J.program) vs → length (clauses J) < false_clause J vs → satisfies J vs ≡ true
  unfolding false_clause
  no_false v h = all_satisfied v (all_pass tests (omega (arith, length-map (clauses J) (any_true (value_at vs)))))

  none_false : satisfies J vs ≡ true → length (clauses J) < false_clause J vs
  unfolding satisfies false_clause
  none_false h =
      let (_, (true_all, _)) = passed _ h in
      let e = pass_all tests true_all in
      omega (arith, length-map (clauses J) (any_true (value_at vs)))

-- ---- an accepted reply

module _ (J : Job) (reply work buffer : List ℕ) (is : checked J reply work ≡ accepted buffer) where
  abbrev N : ℕ
  N = total J.program

  module _ (fits : fit J ≡ true) (room : ltb (length work) N ≡ false) (short : ltb max_reply (length reply) ≡ false) where
    judge : (vs : List ℕ) → values_read N reply ≡ values vs
        → (ltb (length (clauses J)) (false_clause J vs) ≡ true) ⊎ (ltb (length (clauses J)) (false_clause J vs) ≡ false)
        → judged J vs (holding N work vs) ≡ accepted buffer → Satisfying J reply work buffer
    judge vs e (inl t) q =
        let a : accepted (holding N work vs) ≡ accepted buffer = rw t at q in
        record {
          fits = fits;
          room = ltb-false (length work) N room;
          short = ltb-false max_reply (length reply) short;
          said = vs;
          reads = e;
          satisfied = no_false J vs (read_values N reply vs e) (ltb-true _ _ t);
          holds = cc;
        }
    judge vs e (inr t) q =
        let a : refused 65 (false_clause J vs) (holding N work vs) ≡ accepted buffer = rw t at q in
        let z : ◌≡◌ {A = ℕ} 0 1 = cc in
        absurd (omega arith)

    weigh : (R : Read) → values_read N reply ≡ R → weighed J work R ≡ accepted buffer → Satisfying J reply work buffer
    weigh (refusal c k) e q = let z : ◌≡◌ {A = ℕ} 0 1 = cc in absurd (omega arith)
    weigh (values vs) e q = judge vs e (split (ltb (length (clauses J)) (false_clause J vs))) q

  pub accepted_satisfying : Satisfying J reply work buffer
  unfolding checked
  accepted_satisfying = go (fit J) refl (ltb (length work) N) refl (ltb max_reply (length reply)) refl is
    where
      go : (f : Bool) → fit J ≡ f → (a : Bool) → ltb (length work) N ≡ a → (b : Bool) → ltb max_reply (length reply) ≡ b
          → cond (not f) (refused 45 0 work)
          (cond a (refused 51 0 work) (cond b (refused 60 0 work) (weighed J work (values_read N reply)))) ≡ accepted buffer
          → Satisfying J reply work buffer
      go false e a i b j q = let z : ◌≡◌ {A = ℕ} 0 1 = cc in absurd (omega arith)
      go true e true i b j q = let z : ◌≡◌ {A = ℕ} 0 1 = cc in absurd (omega arith)
      go true e false i true j q = let z : ◌≡◌ {A = ℕ} 0 1 = cc in absurd (omega arith)
      go true e false i false j q = weigh e i j (values_read N reply) refl q

-- ---- a reply whose values satisfy the clauses

pub satisfying_accepted : (J : Job) (reply work buffer : List ℕ) → Satisfying J reply work buffer → checked J reply work ≡ accepted buffer
unfolding checked
satisfying_accepted J reply work buffer s =
    rw (
      s.fits,
      le-ltb (length work) (total J.program) s.room,
      le-ltb max_reply (length reply) s.short,
      s.reads,
      lt-ltb (length (clauses J)) (false_clause J s.said) (none_false J s.said s.satisfied),
      s.holds,
    )
