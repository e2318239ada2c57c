-- What the fitness of a table says: the sizes that inner functions rely on, and that the job is good.
use mathlib.Core.Path.{◌≡◌, ap}
use mathlib.Core.Bool.{Bool, true, false, cond}
use mathlib.Core.List.{List, [], ◌∷◌, ◌++◌}
use mathlib.Core.Logic.{◌⊎◌, inl, inr}
use Prim.Native.Nat.{ℕ, zero, suc, ◌+◌, ◌-◌, ◌*◌, ◌≤◌, ◌<◌}
use native.Mathlib.Omega.{arith}
use native.Mathlib.Decide.{ℕ_discrete, dec_lt}
use borrow.Author.Tests.{ltb-true, leb-true, eqb-true, lt-ltb, le-ltb, le-leb, eq-eqb}
use lib.Dec.{ltb, eqb}
use lib.IntN.{ℤ, pos, negsuc}
use lib.ListN.{get_or}
use Rattle.lists.specs.Rows.{each, tab, num}
use Rattle.lists.specs.Tests.{all, within}
use Rattle.lists.proofs.Logic.{split}
use Rattle.lists.proofs.TestLaws.{passed, is_within, all_at, all_fewer}
use Rattle.lists.proofs.PlaceLaws.{first_accepts}
use Rattle.job.specs.declared.Job.{Job}
use Rattle.job.specs.declared.Program.{Program}
use Rattle.job.specs.declared.Literal.{Literal}
use Rattle.job.specs.declared.Action.TheVariants.{Maybe, Critical, Assign, If}
use Rattle.job.specs.Limits.{max_steps, max_lemmas, max_names, max_bound}
use Rattle.job.specs.Literals.{Clause}
use Rattle.job.specs.Table.{Process, w, process, action, action_of, first_of, first_step, item_of, lemma}
use Rattle.job.specs.Fitness.{larger, has_variable, is_step, other_fits, variable_fits, used_step, unused_step, mentioned, step_fits}
use Rattle.job.specs.Fitness.{steps_fit, both_start, program_fits, item_fits, place_fits, length_fits, places_fit, lemma_fits, lemmas_fit}
use Rattle.job.specs.Fitness.{fit}
use Rattle.job.specs.InRange.{Below}
use Rattle.job.proofs.Good.{Leads, Stays, Good}

-- ---- the larger of two

larger_left : (a b : ℕ) → a ≤ larger a b
unfolding larger
larger_left a b = go (dec_lt a b)
  where
    go : Dec (a < b) → a ≤ cond (ltb a b) b a
    go (yes l) = rw (lt-ltb a b l) (omega arith)
    go (no l) = rw (le-ltb a b (omega arith)) (omega arith)

larger_right : (a b : ℕ) → b ≤ larger a b
unfolding larger
larger_right a b = go (dec_lt a b)
  where
    go : Dec (a < b) → b ≤ cond (ltb a b) b a
    go (yes l) = rw (lt-ltb a b l) (omega arith)
    go (no l) = rw (le-ltb a b (omega arith)) (omega arith)

larger_most : (a b k : ℕ) → a ≤ k → b ≤ k → larger a b ≤ k
unfolding larger
larger_most a b k h l = go (ltb a b)
  where
    go : (t : Bool) → cond t b a ≤ k
    go true = l
    go false = h

-- ---- each step mentions at most one new variable

module _ (P : Program) where
  variable_most : (seen c : ℕ) → variable_fits P seen c ≡ true → num P.variable c ≤ seen + 1
  unfolding variable_fits
  variable_most seen c h = go (has_variable (num P.kind c)) h
    where
      go : (b : Bool) → cond b (within 1 (seen + 1) (num P.variable c)) (eqb (num P.variable c) 0) ≡ true
          → num P.variable c ≤ seen + 1
      go true h = (is_within 1 (seen + 1) (num P.variable c) h).1
      go false h = let e = eqb-true (num P.variable c) 0 h in omega arith

  mentioned_more : (c : ℕ) → mentioned P c ≤ c → step_fits P c ≡ true → mentioned P (suc c) ≤ suc c
  unfolding mentioned step_fits used_step unused_step
  mentioned_more c l h = go (ltb c P.steps) h
    where
      go : (b : Bool) → cond b (used_step P (mentioned P c) c) (unused_step P c) ≡ true
          → larger (mentioned P c) (num P.variable c) ≤ suc c
      go true h =
          let (_, (_, (_, (_, (v, _))))) = passed _ h in
          let k = variable_most (mentioned P c) c v in
          larger_most (mentioned P c) (num P.variable c) (suc c) (omega arith) (omega arith)
      go false h =
          let (_, (_, (_, (_, (v, _))))) = passed _ h in
          let k = eqb-true (num P.variable c) 0 v in
          larger_most (mentioned P c) (num P.variable c) (suc c) (omega arith) (omega arith)

  pub mentioned_most : (k : ℕ) → all k (step_fits P) ≡ true → mentioned P k ≤ k
  unfolding mentioned
  mentioned_most zero h = omega arith
  mentioned_most (suc k) h =
      mentioned_more k (mentioned_most k (all_fewer (step_fits P) k h)) (all_at (step_fits P) (suc k) h k (omega arith))

  is_mentioned : (k c : ℕ) → c < k → num P.variable c ≤ mentioned P k
  unfolding mentioned
  is_mentioned zero c l = absurd (omega arith)
  is_mentioned (suc k) c l = go (ℕ_discrete c k) (λ l. is_mentioned k c l)
    where
      go : Dec (c ≡ k) → (c < k → num P.variable c ≤ mentioned P k)
          → num P.variable c ≤ larger (mentioned P k) (num P.variable k)
      go (yes e) f = rw e (larger_right (mentioned P k) (num P.variable k))
      go (no e) f =
          let x = f (omega arith) in
          let y = larger_left (mentioned P k) (num P.variable k) in
          omega arith

-- ---- the sizes that inner functions rely on

pub record Sizes (P : Program) : Type 0 where
  pub bound_low : 1 ≤ P.bound
  pub bound_high : P.bound ≤ max_bound
  pub steps : P.steps ≤ max_steps
  pub variables : P.variables ≤ max_steps
  pub each_step : (c : ℕ) → c < P.steps → used_step P (mentioned P c) c ≡ true
  pub variable_below : (c : ℕ) → c < P.steps → num P.variable c ≤ P.variables

pub program_sizes : (P : Program) → program_fits P ≡ true → Sizes P
unfolding program_fits steps_fit step_fits
program_sizes P h =
    let (a, (b, (s, _))) = passed _ h in
    let (x, (y, _)) = passed _ s in
    let steps = leb-true P.steps max_steps a in
    let bound = is_within 1 max_bound P.bound b in
    let e = eqb-true P.variables (mentioned P max_steps) y in
    let k = mentioned_most P max_steps x in
    record {
      bound_low = bound.0;
      bound_high = bound.1;
      steps = steps;
      variables = omega arith;
      each_step = λ c l. used c l (all_at (step_fits P) max_steps x c (omega arith));
      variable_below = λ c l. let v = is_mentioned P max_steps c (omega arith) in omega arith;
    }
  where
    used : (c : ℕ) → c < P.steps → step_fits P c ≡ true → used_step P (mentioned P c) c ≡ true
    used c l h = rw (lt-ltb c P.steps l) at h

-- ---- a step stays with its process and the job's variables

module _ (P : Program) (z : Sizes P) where
  leads_is : (c l : ℕ) → is_step P c l ≡ true → Leads P (process P c) (l - 1)
  unfolding is_step process
  leads_is c l h =
      let (a, (e, _)) = passed _ h in
      let (a, b) = is_within 1 P.steps l a in
      (omega arith, ap (λ x. eqb x 1) (eqb-true (num P.process (l - 1)) (num P.process c) e))

  -- what the kind asks for
  stays : (p : Process) (k l e x b : ℕ) → Leads P p (l - 1) → (3 ≤ k → x - 1 < P.variables) → (k ≡ 4 → Leads P p (e - 1))
      → Stays P p (action_of k l e x b)
  unfolding action_of
  stays p k l e x b to variable other = go (split (eqb k 4)) (split (eqb k 3)) (eqb k 2)
    where
      last : (t : Bool) → Stays P p (cond t (Critical (l - 1)) (Maybe (l - 1)))
      last true = to
      last false = to

      go : (eqb k 4 ≡ true) ⊎ (eqb k 4 ≡ false) → (eqb k 3 ≡ true) ⊎ (eqb k 3 ≡ false) → (t : Bool)
          → Stays P p
          (cond (eqb k 4) (If (x - 1) (eqb b 1) (l - 1) (e - 1))
          (cond (eqb k 3) (Assign (x - 1) (eqb b 1) (l - 1)) (cond t (Critical (l - 1)) (Maybe (l - 1)))))
      go (inl h) i t = let q = eqb-true k 4 h in rw h (to, variable (omega arith), other q)
      go (inr h) (inl i) t = let q = eqb-true k 3 i in rw (h, i) (to, variable (omega arith))
      go (inr h) (inr i) t = rw (h, i) (last t)

  variable_is : (c : ℕ) → c < P.steps → variable_fits P (mentioned P c) c ≡ true → 3 ≤ num P.kind c
      → num P.variable c - 1 < P.variables
  unfolding variable_fits
  variable_is c l h k =
      let i = is_within 1 (mentioned P c + 1) (num P.variable c) (rw (le-leb 3 (num P.kind c) k) at h) in
      let j = z.variable_below c l in
      omega arith

  other_is : (c : ℕ) → other_fits P c ≡ true → num P.kind c ≡ 4 → Leads P (process P c) (num P.other c - 1)
  unfolding other_fits
  other_is c h k = leads_is c (num P.other c) (rw (eq-eqb (num P.kind c) 4 k) at h)

  step_stays : (c : ℕ) → c < P.steps → Stays P (process P c) (action P c)
  unfolding used_step action
  step_stays c l =
      let (_, (_, (to, (other, (variable, _))))) = passed _ (z.each_step c l) in
      stays (process P c) (num P.kind c) (num P.to c) (num P.other c) (num P.variable c) (num P.value c)
      (leads_is c (num P.to c) to)
      (variable_is c l variable)
      (other_is c other)

-- ---- each process has a first step

starts_is : (P : Program) → program_fits P ≡ true → (p : Process) → Leads P p (first_step P p)
unfolding program_fits both_start first_of process
starts_is P h p =
    let (_, (_, (_, (s, _)))) = passed _ h in
    let (a, (b, _)) = passed _ s in
    go p (ltb-true (first_of P 1) P.steps a) (ltb-true (first_of P 2) P.steps b)
  where
    is : ℕ → ℕ → Bool
    is k c = eqb (num P.process c) k

    go : (p : Process) → first_of P 1 < P.steps → first_of P 2 < P.steps → Leads P p (first_step P p)
    go true a b = (a, first_accepts (is 1) P.steps a)
    go false a b =
        let e = eqb-true (num P.process (first_of P 2)) 2 (first_accepts (is 2) P.steps b) in
        (b, ap (λ x. eqb x 1) e)

-- ---- lemmas

-- what the test says of lemma k
pub lemma_is : (lengths : List ℕ) (items : List ℤ) (count w : ℕ) → count ≤ max_lemmas → lemmas_fit lengths items count w ≡ true
    → (k : ℕ) → k < count
    → (1 ≤ num lengths k) × (num lengths k ≤ max_names)
    × ((i : ℕ) → i < num lengths k → item_fits w (get_or items (k * max_names + i) (pos 0)) ≡ true)
unfolding lemmas_fit lemma_fits length_fits places_fit place_fits
lemma_is lengths items count w c h k l =
    let place : ℕ → Bool = λ i. place_fits w (num lengths k) i (get_or items (k * max_names + i) (pos 0)) in
    let (a, (b, _)) = passed _ (all_at (lemma_fits lengths items count w) max_lemmas h k (omega arith)) in
    let n = is_within 1 max_names (num lengths k) (rw (lt-ltb k count l) at a) in
    (n.0, n.1, λ i j. rw (lt-ltb i (num lengths k) j) at (all_at place max_names b i (omega (arith, n.1))))

pub below_append : (k : ℕ) (a b : Clause) → Below k a → Below k b → Below k (a ++ b)
below_append k [] b h i = i
below_append k (l ∷ a) b h i = (h.0, below_append k a b h.1 i)

below_tab : (k i : ℕ) (f : ℕ → Literal) → ((j : ℕ) → j < i → Below k (f j ∷ [])) → Below k (tab i f)
unfolding each
below_tab k zero f h = tt
below_tab k (suc i) f h =
    below_append k (tab i f) (f i ∷ []) (below_tab k i f λ j l. h j (omega arith)) (h i (omega arith))

below_item : (w : ℕ) (x : ℤ) → item_fits w x ≡ true → Below w (item_of x ∷ [])
unfolding item_fits
below_item w (pos x) h = let a = is_within 1 w x h in (omega arith, tt)
below_item w (negsuc x) h = (ltb-true x w h, tt)

-- ---- the table

pub fit_sizes : (J : Job) → fit J ≡ true → Sizes J.program
unfolding fit
fit_sizes J h = let (p, _) = passed _ h in program_sizes J.program p

pub fit_lemmas : (J : Job) → fit J ≡ true → J.lemmas ≤ max_lemmas
unfolding fit
fit_lemmas J h = let (_, (c, _)) = passed _ h in leb-true J.lemmas max_lemmas c

pub fit_good : (J : Job) → fit J ≡ true → Good J
unfolding fit lemma
fit_good J h =
    let (p, (_, (l, _))) = passed _ h in
    record {
      starts = starts_is J.program p;
      steps = step_stays J.program (fit_sizes J h);
      lemmas = λ k i.
          let (_, _, f) = lemma_is J.lengths J.items J.lemmas (w J.program) (fit_lemmas J h) l k i in
          below_tab (w J.program) (num J.lengths k) _ λ j i. below_item (w J.program) _ (f j i);
    }
