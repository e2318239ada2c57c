-- A program whose labels are linked, of a draft that is fit so far, is fit.
use mathlib.Core.Path.{◌≡◌, refl, sym, ap, ◌∙◌, subst}
use mathlib.Core.Bool.{true, false, not, cond}
use mathlib.Core.List.{List}
use Rattle.std.specs.Prelude.{Result, Ok, Err}
use Prim.Native.Nat.{ℕ, zero, suc, ◌+◌, ◌*◌, ◌≤◌, ◌<◌}
use native.Mathlib.Omega.{arith}
use native.Mathlib.Decide.{ℕ_discrete, dec_lt}
use borrow.Author.Tests.{lt-ltb, le-ltb, le-leb, eq-eqb}
use lib.Dec.{eqb, ltb}
use lib.ListN.{length, set}
use lib.Seq.{slice}
use Rattle.lists.specs.Rows.{num}
use Rattle.lists.proofs.TestLaws.{pass, within_is, all_of}
use Rattle.job.specs.Limits.{max_steps}
use Rattle.job.specs.Fitness.{larger, has_other, is_step, other_fits, variable_fits, value_fits, used_step}
use Rattle.job.specs.Fitness.{unused_step, mentioned, step_fits, steps_fit, both_start, both_critical, program_fits}
use Rattle.job.specs.Table.{first_of}
use Rattle.job.specs.declared.Program.{Program}
use Rattle.job.specs.declared.refusal.Fault.{Fault}
use Rattle.program.specs.declared.Draft.{Draft}
use Rattle.program.proofs.PutLaws.{Put, put_set}
use Rattle.program.proofs.DraftFits.{Drafted, mentioned_same, larger_first}
use Rattle.parse.specs.Labels.{aim, with_to, with_other, entered, link_step, link}
use Rattle.parse.proofs.AnswerLaws.{Holds, cond_holds, then_holds}
use Rattle.parse.proofs.LabelLaws.{Steady, target_is}

-- ---- the labels of the first k steps of P are steps, and those of the others 0

abbrev LinkedStep : Program → List ℕ → List ℕ → ℕ → Type 0
LinkedStep P t o c = (is_step P c (num t c) ≡ true) × (cond (has_other (num P.kind c)) (is_step P c (num o c)) (eqb (num o c) 0) ≡ true)

pub record Linking (P : Program) (k : ℕ) (t o : List ℕ) : Type 0 where
  pub to_size : length t ≡ max_steps
  pub other_size : length o ≡ max_steps
  pub done : (c : ℕ) → c < k → LinkedStep P t o c
  pub left : (c : ℕ) → k ≤ c → (num t c ≡ 0) × (num o c ≡ 0)

-- with L of step k too
record Half (P : Program) (k : ℕ) (t o : List ℕ) : Type 0 where
  to_size : length t ≡ max_steps
  other_size : length o ≡ max_steps
  done : (c : ℕ) → c < k → LinkedStep P t o c
  here : is_step P k (num t k) ≡ true
  left_to : (c : ℕ) → k < c → num t c ≡ 0
  left_other : (c : ℕ) → k ≤ c → num o c ≡ 0

module _ (d : Draft) (D : Drafted d.program) where
  abbrev P : Program
  P = d.program

  aim_step : (labels : List ℕ) (k i : ℕ) → aim d labels k ≡ Ok i → is_step P k i ≡ true
  unfolding aim is_step
  aim_step labels k i e =
      let (a, b, c) = target_is P.process d.labels P.steps k (slice (k * 4) (k * 4 + 4) labels) i e in
      pass _ (within_is 1 P.steps i a b, (c, tt))

  to_linked : (Q : Program) (k place : ℕ) → k < max_steps → Linking P k Q.to Q.other
      → Holds (λ R. Half P k R.to R.other) (entered (with_to Q k) place (aim d d.to k))
  unfolding entered
  to_linked Q k place l h = go (aim d d.to k) refl
    where
      go : (t : Result ℕ Fault) → aim d d.to k ≡ t → Holds (λ R. Half P k R.to R.other) (entered (with_to Q k) place t)
      go (Err fault) e = tt
      go (Ok i) e =
          let p = put_set Q.to k i (omega (arith, h.to_size)) in
          record {
            to_size = p.0 ∙ h.to_size;
            other_size = h.other_size;
            done = λ c b. (subst (λ (x : ℕ). is_step P c x ≡ true) (sym (p.2 c (λ q. omega arith))) (h.done c b).0, (h.done c b).1);
            here = subst (λ (x : ℕ). is_step P k x ≡ true) (sym p.1) (aim_step d.to k i e);
            left_to = λ c b. p.2 c (λ q. omega arith) ∙ (h.left c (omega arith)).0;
            left_other = λ c b. (h.left c b).1;
          }

  other_linked : (Q : Program) (k place : ℕ) → k < max_steps → has_other (num P.kind k) ≡ true → Half P k Q.to Q.other
      → Holds (λ R. Linking P (suc k) R.to R.other) (entered (with_other Q k) place (aim d d.other k))
  unfolding entered
  other_linked Q k place l f h = go (aim d d.other k) refl
    where
      go : (t : Result ℕ Fault) → aim d d.other k ≡ t → Holds (λ R. Linking P (suc k) R.to R.other) (entered (with_other Q k) place t)
      go (Err fault) e = tt
      go (Ok i) e =
          let p = put_set Q.other k i (omega (arith, h.other_size)) in
          record {
            to_size = h.to_size;
            other_size = p.0 ∙ h.other_size;
            done = λ c b. step p c b (ℕ_discrete c k);
            left = λ c b. (h.left_to c (omega arith), p.2 c (λ q. omega arith) ∙ h.left_other c (omega arith));
          }
        where
          step : Put Q.other (set Q.other k i) k i → (c : ℕ) → c < suc k → Dec (c ≡ k) → LinkedStep P Q.to (set Q.other k i) c
          step p c b (yes q) =
              subst (λ (x : ℕ). LinkedStep P Q.to (set Q.other k i) x) (sym q)
              (h.here, rw (f, p.1) (aim_step d.other k i e))
          step p c b (no q) = ((h.done c (omega arith)).0, rw (p.2 c q) (h.done c (omega arith)).1)

  none_linked : (Q : Program) (k : ℕ) → has_other (num P.kind k) ≡ false → Half P k Q.to Q.other
      → Linking P (suc k) Q.to Q.other
  none_linked Q k f h = record {
    to_size = h.to_size;
    other_size = h.other_size;
    done = λ c b. step c b (ℕ_discrete c k);
    left = λ c b. (h.left_to c (omega arith), h.left_other c (omega arith));
  }
    where
      step : (c : ℕ) → c < suc k → Dec (c ≡ k) → LinkedStep P Q.to Q.other c
      step c b (yes q) =
          subst (λ (x : ℕ). LinkedStep P Q.to Q.other x) (sym q)
          (h.here, rw (f, h.left_other k (omega arith)) refl)
      step c b (no q) = h.done c (omega arith)

  pub link_linked : (k : ℕ) → k ≤ P.steps → Holds (λ Q. Linking P k Q.to Q.other) (link d k)
  unfolding link link_step
  link_linked zero l = record {
    to_size = D.to_size;
    other_size = D.other_size;
    done = λ c b. absurd (omega arith);
    left = λ c b. D.unlinked c;
  }
  link_linked (suc k) l =
      let few = D.few in
      then_holds (λ Q. Linking P (suc k) Q.to Q.other) (λ Q. Linking P k Q.to Q.other) (link d k) _
      (link_linked k (omega arith)) λ Q h.
      then_holds (λ Q. Linking P (suc k) Q.to Q.other) (λ R. Half P k R.to R.other) _ _ (to_linked Q k _ (omega arith) h) λ R g.
      cond_holds (λ Q. Linking P (suc k) Q.to Q.other) (has_other (num P.kind k)) _ _ (λ f. other_linked R k _ (omega arith) f g)
      (λ f. none_linked R k f g)

-- ---- the program

abbrev relinked : Program → List ℕ → List ℕ → Program
relinked P t o = record P { to = t; other = o }

pub steady_is : (P Q : Program) → Steady P Q → relinked P Q.to Q.other ≡ Q
steady_is P Q s = rw (← s.0, ← s.1, ← s.2, ← s.3, ← s.4, ← s.5, ← s.6, ← s.7)

-- past the last step nothing is mentioned
mentioned_past : (P : Program) → Drafted P → (c : ℕ) → P.steps ≤ c → mentioned P c ≡ mentioned P P.steps
unfolding mentioned
mentioned_past P D zero l = let e : 0 ≡ P.steps = omega arith in ap (mentioned P) e
mentioned_past P D (suc c) l = go (ℕ_discrete (suc c) P.steps) (mentioned_past P D c)
  where
    go : Dec (suc c ≡ P.steps) → (P.steps ≤ c → mentioned P c ≡ mentioned P P.steps) → mentioned P (suc c) ≡ mentioned P P.steps
    go (yes e) f = ap (mentioned P) e
    go (no e) f =
        ap (larger (mentioned P c)) (D.unused c (omega arith)).2 ∙ sym (larger_first (mentioned P c) 0 (omega arith)) ∙ f (omega arith)

module _ (P : Program) (t o : List ℕ) (D : Drafted P) (L : Linking P P.steps t o) where
  abbrev R : Program
  R = relinked P t o

  seen : (c : ℕ) → mentioned R c ≡ mentioned P c
  seen c = mentioned_same P R c (λ i l. refl)

  step_fits_lem : (c : ℕ) → c < max_steps → step_fits R c ≡ true
  unfolding step_fits used_step unused_step is_step other_fits variable_fits value_fits
  step_fits_lem c l = go (dec_lt c P.steps)
    where
      go : Dec (c < P.steps) → cond (ltb c P.steps) (used_step R (mentioned R c) c) (unused_step R c) ≡ true
      go (yes h) =
          let u = D.used c h in
          let k = L.done c h in
          rw (lt-ltb c P.steps h) (pass _ (u.0, (u.1, (k.0, (k.1, (rw (seen c) u.2, (u.3, tt)))))))
      go (no h) =
          let u = D.unused c (omega arith) in
          let k = L.left c (omega arith) in
          rw (le-ltb c P.steps (omega arith))
          (pass _ (
            eq-eqb _ 0 u.0,
            (eq-eqb _ 0 u.1, (eq-eqb _ 0 k.0, (eq-eqb _ 0 k.1, (eq-eqb _ 0 u.2, (eq-eqb _ 0 u.3, tt))))),
          ))

  steps_fit_lem : steps_fit R ≡ true
  unfolding steps_fit
  steps_fit_lem =
      let few = D.few in
      pass _ (
        all_of (step_fits R) max_steps step_fits_lem,
        (eq-eqb P.variables (mentioned R max_steps) (D.counted ∙ sym (mentioned_past P D max_steps few) ∙ sym (seen max_steps)), tt),
      )

  pub linked_fits : ltb (first_of P 1) P.steps ≡ true → ltb (first_of P 2) P.steps ≡ true → both_critical P ≡ false
      → program_fits R ≡ true
  unfolding program_fits both_start both_critical first_of
  linked_fits a b c =
      pass _ (le-leb P.steps max_steps D.few, (D.bounded, (steps_fit_lem, (pass _ (a, (b, tt)), (ap not c, (D.worded, tt))))))
