-- No clause of a fit job has more literals than there are items: `clauses_short`, at the end. All but a few clauses are of a fixed
-- length; the others have a literal for each step, each item or each name of a lemma.
use mathlib.Core.Path.{◌≡◌}
use mathlib.Core.Bool.{Bool, true, false, cond, ◌&&◌}
use mathlib.Core.List.{List, [], ◌∷◌, ◌++◌, map}
use Prim.Native.Nat.{ℕ, zero, suc, ◌+◌, ◌≤◌, ◌<◌}
use native.Mathlib.Omega.{arith}
use lib.Dec.{eqb}
use lib.ListN.{length, length-append, length-map}
use Rattle.lists.specs.Rows.{each, tab}
use Rattle.lists.proofs.RowLaws.{length_tab}
use Rattle.lists.proofs.TestLaws.{passed}
use Rattle.job.specs.declared.Job.{Job}
use Rattle.job.specs.declared.Program.{Program}
use Rattle.job.specs.declared.Literal.{Literal}
use Rattle.job.specs.declared.Literal.TheVariants.{On, Off}
use Rattle.job.specs.declared.Action.{Action}
use Rattle.job.specs.declared.Action.TheVariants.{Maybe, Critical, Assign, If}
use Rattle.job.specs.Literals.{Clause}
use Rattle.job.specs.Table.{Process, A, B, m, n, w, r, action, own, lemma}
use Rattle.job.specs.Words.{asks_start, asks_crash}
use Rattle.job.specs.Meaning.{is_critical}
use Rattle.job.specs.Numbering.{item}
use Rattle.job.specs.Exclusion.{excluding, exclusion}
use Rattle.job.specs.Clauses.{assigns, some_step, excludes, branches, leads, turns, assigning, assignments, keeps, variables}
use Rattle.job.specs.Clauses.{step_differs, bit_differs, differ, excludes_at, turns_at, variables_at, differ_at, between}
use Rattle.job.specs.Clauses.{start_clauses, some_critical, word_clauses, at_time, lemma_clauses, free_clauses, clauses}
use Rattle.job.specs.Fitness.{fit}
use Rattle.job.proofs.FitnessLaws.{Sizes, fit_sizes, fit_lemmas, lemma_is}
use Rattle.pieces.specs.AllClauses.{longest, Short}

-- ---- lists of clauses

short_both : (a b : List Clause) → Short a → Short b → Short (a ++ b)
short_both [] b h i = i
short_both (c ∷ cs) b h i = (h.0, short_both cs b h.1 i)

each_short : (k : ℕ) (g : ℕ → List Clause) → ((j : ℕ) → j < k → Short (g j)) → Short (each k g)
unfolding each
each_short zero g h = tt
each_short (suc k) g h = short_both (each k g) (g k) (each_short k g λ j l. h j (omega arith)) (h k (omega arith))

cond_short : (b : Bool) (cs : List Clause) → Short cs → Short (cond b cs [])
cond_short true cs h = h
cond_short false cs h = tt

-- at most one literal for each of k steps
row_most : (k : ℕ) (b : ℕ → Bool) (g : ℕ → Literal) → length (each k λ c. cond (b c) (g c ∷ []) []) ≤ k
unfolding each
row_most zero b g = omega arith
row_most (suc k) b g = let h = row_most k b g in rw length-append (go (b k) h)
  where
    go : (x : Bool) → length (each k λ c. cond (b c) (g c ∷ []) []) ≤ k
        → length (each k λ c. cond (b c) (g c ∷ []) []) + length (cond x (g k ∷ []) []) ≤ suc k
    go true h = omega arith
    go false h = omega arith

-- ---- each family of clauses

excluding_short : (h : ℕ) (p : Literal) (xs : List Literal) → Short (excluding h p xs)
unfolding excluding
excluding_short h p [] = tt
excluding_short h p (q ∷ []) = (omega arith, tt)
excluding_short h p (q ∷ s ∷ []) = (omega arith, (omega arith, (omega arith, tt)))
excluding_short h p (q ∷ s ∷ d ∷ []) =
    (omega arith, (omega arith, (omega arith, (omega arith, (omega arith, (omega arith, tt))))))
excluding_short h p (q ∷ s ∷ d ∷ x ∷ rest) =
    let others = excluding_short (suc h) (Off h) (d ∷ x ∷ rest) in
    (omega arith, (omega arith, (omega arith, (omega arith, (omega arith, (omega arith, others))))))

exclusion_short : (h : ℕ) (xs : List Literal) → Short (exclusion h xs)
unfolding exclusion
exclusion_short h [] = tt
exclusion_short h (p ∷ xs) = excluding_short h p xs

module _ (P : Program) (sizes : Sizes P) where
  excludes_short : (p : Process) (h : ℕ) (here : ℕ → ℕ) → Short (excludes P p h here)
  unfolding excludes
  excludes_short p h here = exclusion_short h _

  some_short : (p : Process) (here : ℕ → ℕ) → length (some_step P p here) ≤ longest
  unfolding some_step
  some_short p here = let steps = row_most (m P) (own P p) (λ c. On (here c)) in omega (arith, sizes.steps)

  module _ (U : ℕ) (here next : ℕ → ℕ) where
    branches_short : (p : Process) (c : ℕ) (at_l at_m : Bool) (x : ℕ) (b : Bool) (l e : ℕ)
        → Short (branches P U here next p c at_l at_m x b l e)
    branches_short p c true at_m x b l e = (omega arith, (omega arith, tt))
    branches_short p c false true x b l e = (omega arith, (omega arith, tt))
    branches_short p c false false x b l e = (omega arith, (omega arith, tt))

    leads_short : (p : Process) (c : ℕ) (a : Action) → Short (leads P U here next p c a)
    unfolding leads
    leads_short p c (Maybe l) = (omega arith, tt)
    leads_short p c (Critical l) = (omega arith, tt)
    leads_short p c (Assign x b l) = (omega arith, tt)
    leads_short p c (If x b l e) = branches_short p c (eqb l c) (eqb e c) x b l e

    turns_short : (p : Process) → Short (turns P U here next p)
    unfolding turns
    turns_short p = each_short (m P) _ λ c l. cond_short (own P p c) _ (omega arith, leads_short p c (action P c))

    keeps_short : (p b : Bool) (x : ℕ) → length (keeps P U here next p b x) ≤ longest
    unfolding assigning
    keeps_short p b x =
        let steps = row_most (m P) (λ c. own P p c && assigns (action P c) x) (λ c. On (here c)) in
        rw length-append (omega (arith, sizes.steps))

    assignments_short : (x : ℕ) → Short (assignments P U here next x)
    unfolding assignments
    assignments_short x = each_short (m P) _ λ c l. cond_short (assigns (action P c) x) _ (omega arith, tt)

    variables_short : Short (variables P U here next)
    unfolding variables
    variables_short = each_short (n P) _ λ x l. short_both (assignments P U here next x) _ (assignments_short x)
        (keeps_short A false x, (keeps_short B false x, (keeps_short A true x, (keeps_short B true x, tt))))

  differ_short : (D at_u at_v : ℕ → ℕ) → Short (differ P D at_u at_v)
  unfolding differ
  differ_short D at_u at_v =
      let some : List Clause = each (w P) (λ c. On (D c) ∷ []) ∷ [] in
      let bits : List Clause = each (n P) (λ x. bit_differs P D at_u at_v (m P + x)) in
      let some_is : Short some = (omega (arith, length_tab (w P) (λ c. On (D c)), sizes.steps, sizes.variables), tt) in
      let bits_are : Short bits = each_short (n P) _ λ x l. (omega arith, (omega arith, tt)) in
      short_both (each (m P) (step_differs P D at_u at_v)) (bits ++ some)
      (each_short (m P) (step_differs P D at_u at_v) λ c l. (omega arith, (omega arith, tt)))
      (short_both bits some bits_are some_is)

  between_short : (t : ℕ) → Short (between P t)
  unfolding between
  between_short t =
      short_both (excludes_at P A (suc t)) _ (excludes_short A _ _) (
      short_both (excludes_at P B (suc t)) _ (excludes_short B _ _) (
      short_both (turns_at P A t) _ (turns_short _ _ _ A) (
      short_both (turns_at P B t) _ (turns_short _ _ _ B) (
      short_both (variables_at P t) (each (suc t) λ u. differ_at P u (suc t)) (variables_short _ _ _) differences))))
    where
      differences : Short (each (suc t) λ u. differ_at P u (suc t))
      differences = each_short (suc t) (λ u. differ_at P u (suc t)) λ u l. differ_short _ _ _

  -- ---- what the word asks

  start_short : (here : ℕ → ℕ) → Short (start_clauses P here)
  unfolding start_clauses
  start_short here =
      short_both (tab (n P) λ x. Off (here (m P + x)) ∷ []) _ (each_short (n P) _ λ x l. (omega arith, tt)) (omega arith, (omega arith, tt))

  critical_short : (p : Process) (here : ℕ → ℕ) → length (some_critical P p here) ≤ longest
  unfolding some_critical
  critical_short p here =
      let steps = row_most (m P) (λ c. own P p c && is_critical (action P c)) (λ c. On (here c)) in
      omega (arith, sizes.steps)

  word_short : Short (word_clauses P)
  unfolding word_clauses
  word_short =
      short_both (cond (asks_start P) (start_clauses P (item P 0)) []) _
      (cond_short (asks_start P) _ (start_short (item P 0)))
      (cond_short (asks_crash P) _ (critical_short A (item P (r P)), (critical_short B (item P (r P)), tt)))

-- ---- all clauses

lemmas_short : (J : Job) → fit J ≡ true → Short (lemma_clauses J)
unfolding lemma_clauses fit lemma
lemmas_short J h =
    let P = J.program in
    let (_, (_, (f, _))) = passed _ h in
    each_short J.lemmas _ λ k l. each_short (suc (r P)) (λ t. map (at_time (item P t)) (lemma J k) ∷ []) λ t i.
    let (_, most, _) = lemma_is J.lengths J.items J.lemmas (w P) (fit_lemmas J h) f k l in
    (rw (length-map, length_tab) (omega (arith, most)), tt)

free_short : (J : Job) → fit J ≡ true → Short (free_clauses J)
unfolding free_clauses
free_short J h =
    let P = J.program in
    let sizes = fit_sizes J h in
    let times : Short (each (r P) (between P)) = each_short (r P) (between P) (λ t l. between_short P sizes t) in (
      some_short P sizes A _,
      (
        some_short P sizes B _,
        short_both (excludes_at P A 0) _ (excludes_short P sizes A _ _)
            (short_both (excludes_at P B 0) _ (excludes_short P sizes B _ _)
            (short_both (each (r P) (between P)) (lemma_clauses J) times (lemmas_short J h))),
      ),
    )

pub clauses_short : (J : Job) → fit J ≡ true → Short (clauses J)
unfolding clauses
clauses_short J h = short_both (free_clauses J) (word_clauses J.program) (free_short J h) (word_short J.program (fit_sizes J h))
