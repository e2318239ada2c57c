-- Laws of the checks at `lemmas`: what a label names, and what linking keeps.
use mathlib.Core.Path.{◌≡◌, refl, sym, ap, ◌∙◌}
use mathlib.Core.Bool.{Bool, true, false, cond}
use mathlib.Core.List.{List}
use Prim.Native.Nat.{ℕ, zero, suc, ◌+◌, ◌-◌, ◌≤◌, ◌<◌}
use native.Mathlib.Omega.{arith}
use native.Mathlib.Numerals.{add-one}
use native.Mathlib.Decide.{ℕ_discrete}
use Rattle.std.specs.Prelude.{Option, Some, None, Result, Ok, Err}
use lib.Dec.{eqb, ltb}
use Rattle.lists.specs.Rows.{num}
use Rattle.job.specs.Table.{first_of}
use Rattle.job.specs.Fitness.{has_other, both_critical}
use Rattle.job.specs.declared.Job.{Job}
use Rattle.job.specs.declared.Program.{Program}
use Rattle.job.specs.declared.refusal.Fault.{Fault}
use Rattle.job.specs.declared.refusal.Fault.TheVariants.{LabelOther}
use Rattle.job.specs.declared.refusal.Refusal.{Refusal}
use Rattle.scan.specs.Names.{lookup}
use Rattle.scan.proofs.NameLaws.{lookup_below}
use Rattle.program.specs.declared.Draft.{Draft}
use Rattle.parse.specs.Answers.{then, without_lemmas}
use Rattle.parse.specs.Labels.{target_of, with_to, with_other, entered, link_step, link, started, at_lemmas}
use Rattle.parse.proofs.AnswerLaws.{Holds, cond_holds, then_holds}

-- ---- one label

-- a label that is a step is one of the m steps, and of the same process
pub target_is : (process labels : List ℕ) (m k : ℕ) (w : List ℕ) (i : ℕ) → target_of process k (lookup labels m w) ≡ Ok i
    → (1 ≤ i) × (i ≤ m) × (eqb (num process (i - 1)) (num process k) ≡ true)
unfolding target_of
target_is process labels m k w i e = go (lookup labels m w) refl e
  where
    own : (x : ℕ) → x < m → (b : Bool) → eqb (num process x) (num process k) ≡ b → cond b (Ok (x + 1)) (Err LabelOther) ≡ Ok i
        → (1 ≤ i) × (i ≤ m) × (eqb (num process (i - 1)) (num process k) ≡ true)
    own x l true h g =
        let y : x + 1 ≡ i = cc in
        let z : i - 1 ≡ x = omega arith in
        (omega arith, omega arith, ap (λ (c : ℕ). eqb (num process c) (num process k)) z ∙ h)
    own x l false h g = cc

    go : (f : Option ℕ) → lookup labels m w ≡ f → target_of process k f ≡ Ok i
        → (1 ≤ i) × (i ≤ m) × (eqb (num process (i - 1)) (num process k) ≡ true)
    go None h g = cc
    go (Some x) h g = own x (lookup_below labels m w x h) (eqb (num process x) (num process k)) refl g

-- ---- all steps

pub link_none : (d : Draft) → link d 0 ≡ Ok d.program
unfolding link
link_none d = refl

pub link_next : (d : Draft) (k : ℕ) (P : Program) → link d k ≡ Ok P → link d (k + 1) ≡ link_step d k P
unfolding link then
link_next d k P e = ap (link d) (add-one k) ∙ ap (λ (l : Result Program Refusal). then l (link_step d k)) e

-- a step that is refused ends the linking
pub link_stays : (d : Draft) (k m : ℕ) (q : Refusal) → link d k ≡ Err q → k ≤ m → link d m ≡ Err q
unfolding link then
link_stays d k zero q e h = let z : k ≡ 0 = omega arith in ap (link d) (sym z) ∙ e
link_stays d k (suc m) q e h = go (ℕ_discrete k (suc m)) (λ l. link_stays d k m q e l)
  where
    go : Dec (k ≡ suc m) → (k ≤ m → link d m ≡ Err q) → link d (suc m) ≡ Err q
    go (yes x) g = ap (link d) (sym x) ∙ e
    go (no x) g = ap (λ (l : Result Program Refusal). then l (link_step d m)) (g (omega arith))

-- ---- linking changes labels only

abbrev pub Steady : Program → Program → Type 0
Steady P Q =
    (Q.bound ≡ P.bound) × (Q.steps ≡ P.steps) × (Q.variables ≡ P.variables) × (Q.process ≡ P.process)
    × (Q.kind ≡ P.kind) × (Q.variable ≡ P.variable) × (Q.value ≡ P.value) × (Q.word ≡ P.word)

module _ (P : Program) where
  steady_entered : (with : ℕ → Program) (place : ℕ) (t : Result ℕ Fault) → ((i : ℕ) → Steady P (with i))
      → Holds (Steady P) (entered with place t)
  unfolding entered
  steady_entered with place (Ok i) h = h i
  steady_entered with place (Err fault) h = tt

pub link_steady : (d : Draft) (k : ℕ) → Holds (Steady d.program) (link d k)
unfolding link link_step
link_steady d zero = (refl, refl, refl, refl, refl, refl, refl, refl)
link_steady d (suc k) =
    let I : Program → Type 0 = Steady d.program in
    then_holds I I (link d k) _ (link_steady d k) λ Q h.
    then_holds I I (entered (with_to Q k) (num d.line k) _) _ (steady_entered d.program (with_to Q k) _ _ (λ _. h)) λ R g.
    cond_holds I (has_other (num d.program.kind k)) _ _ (λ _. steady_entered d.program (with_other R k) _ _ (λ _. g)) (λ _. g)

-- a table that passes the checks has the program linked
pub started_holds : (I : Job → Type 0) (d : Draft) (n : ℕ)
    → (ltb (first_of d.program 1) d.program.steps ≡ true → ltb (first_of d.program 2) d.program.steps ≡ true
    → (Q : Program) → link d d.program.steps ≡ Ok Q → both_critical d.program ≡ false → I (without_lemmas d Q))
    → Holds I (at_lemmas d n)
unfolding at_lemmas started then
started_holds I d n h =
    cond_holds I (ltb (first_of d.program 1) d.program.steps) _ _
    (λ a. cond_holds I (ltb (first_of d.program 2) d.program.steps) _ _ (λ b. go a b (link d d.program.steps) refl) (λ _. tt))
    (λ _. tt)
  where
    go : ltb (first_of d.program 1) d.program.steps ≡ true → ltb (first_of d.program 2) d.program.steps ≡ true
        → (r : Result Program Refusal) → link d d.program.steps ≡ r → Holds I (then r (started d n))
    go a b (Ok Q) e = cond_holds I (both_critical d.program) _ _ (λ _. tt) (λ c. h a b Q e c)
    go a b (Err q) e = tt
