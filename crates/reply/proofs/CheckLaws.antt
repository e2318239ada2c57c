-- The answer to a reply: one law for each way out of the open call.
use mathlib.Core.Path.{◌≡◌, refl, sym, ap, ◌∙◌}
use mathlib.Core.Bool.{Bool, true, false, cond}
use mathlib.Core.List.{List, [], ◌++◌}
use Rattle.std.proofs.Common.{Result, Ok, Err, Option, Some, None, append-nil, length-take-le}
use Rattle.lists.specs.Rows.{tab}
use Prim.Native.Nat.{ℕ, ◌≤◌, ◌<◌}
use native.Mathlib.Omega.{arith}
use borrow.Author.Tests.{lt-ltb, le-ltb}
use lib.Dec.{ltb}
use lib.ListN.{length, take, drop, length-take, drop_of_length-le}
use Rattle.job.specs.declared.Job.{Job}
use Rattle.job.specs.declared.refusal.Refusal.{Refusal}
use Rattle.job.specs.Faults.{number_of}
use Rattle.job.specs.Answers.{gives, answer_of}
use Rattle.job.specs.Numbering.{total}
use Rattle.job.specs.Clauses.{clauses}
use Rattle.job.specs.Fitness.{fit}
use Rattle.fit.specs.declared.FitJob.{FitJob}
use Rattle.totals.specs.declared.Header.{Header}
use Rattle.totals.specs.Totals.{header_of}
use Rattle.job.specs.Satisfaction.{false_clause}
use Rattle.cnf.specs.Evaluation.{first_false, evaluation}
use Rattle.reply.specs.Reply.{Read, refusal, values, values_read}
use Rattle.reply.specs.Check.{Outcome, accepted, refused, max_reply, judged, weighed, checked}
use Rattle.reply.specs.Answers.{outcome, settled}

-- ---- the evaluation of a fit table's clauses

module _ (J : Job) (h : fit J ≡ true) (vs : List ℕ) (e : Result (Option ℕ) Refusal) (is : answer_of e ≡ evaluation J vs) where
  fit_evaluation : gives (first_false J vs) ≡ answer_of e
  unfolding evaluation
  fit_evaluation = sym (is ∙ rw h)

  is_first_false : (f : Option ℕ) → e ≡ Ok f → f ≡ first_false J vs
  is_first_false f k = let q = fit_evaluation ∙ ap answer_of k in cc

  pub not_unfit : (r : Refusal) → e ≡ Err r → ⊥
  not_unfit r k = let q = fit_evaluation ∙ ap answer_of k in let z : ◌≡◌ {A = ℕ} 0 1 = cc in omega arith

-- what the first false clause decides
abbrev judged_by : Option ℕ → List ℕ → Outcome
judged_by None buffer = accepted buffer
judged_by (Some k) buffer = refused 65 k buffer

is_judgement : (J : Job) (vs buffer : List ℕ) → judged_by (first_false J vs) buffer ≡ judged J vs buffer
is_judgement J vs buffer = go (ltb (length (clauses J)) (false_clause J vs))
  where
    go : (b : Bool) → judged_by (cond b None (Some (false_clause J vs))) buffer
        ≡ cond b (accepted buffer) (refused 65 (false_clause J vs) buffer)
    go true = refl
    go false = refl

-- ---- the order of the numbers

module _ (J : Job) (reply work : List ℕ) where
  pub is_45 : fit J ≡ false → refused 45 0 work ≡ checked J reply work
  unfolding checked
  is_45 h = rw h

  module _ (F : FitJob) (same : F.job ≡ J) (header : Header) (counts : header ≡ header_of F.job) where
    abbrev n : ℕ
    n = header.variables

    pub h : fit J ≡ true
    h = rw same at F.fits

    is_header : header ≡ header_of J
    is_header = counts ∙ ap header_of same

    e : n ≡ total J.program
    e = ap (λ (a : Header). a.variables) is_header

    pub is_51 : length work < n → refused 51 0 work ≡ checked J reply work
    unfolding checked
    is_51 l = rw (h, ← e, lt-ltb (length work) n l)

    module _ (l : n ≤ length work) where
      pub is_60 : max_reply < length reply → refused 60 0 work ≡ checked J reply work
      unfolding checked
      is_60 k = rw (h, ← e, le-ltb (length work) n l, lt-ltb max_reply (length reply) k)

      -- r and w are the answer and the first n bytes of the buffer once the reply is read
      module _ (k : length reply ≤ max_reply) {T : Type 0} (r : Result T Refusal) (w : List ℕ)
          (answer : outcome r w ≡ settled (length (take n work)) (take n work) (values_read (length (take n work)) reply)) where
        read : outcome r w ≡ settled n (take n work) (values_read n reply)
        read = rw (length-take-le n work l) at answer

        is_weighed : weighed J work (values_read n reply) ≡ checked J reply work
        unfolding checked
        is_weighed = sym (rw (h, ← e, le-ltb (length work) n l, le-ltb max_reply (length reply) k))

        -- the rest of the first n bytes is nothing
        nothing : drop n (take n work) ≡ []
        nothing = drop_of_length-le (take n work) (omega (arith, length-take n work))

        pub is_refused : (x : Refusal) → r ≡ Err x → refused (number_of x.fault) x.place (w ++ drop n work) ≡ checked J reply work
        is_refused x p = go (values_read n reply) (rw p at read) ∙ is_weighed
          where
            go : (R : Read) → refused (number_of x.fault) x.place w ≡ settled n (take n work) R
                → refused (number_of x.fault) x.place (w ++ drop n work) ≡ weighed J work R
            go (refusal c i) q =
                let zeros : List ℕ = tab n (λ y. 0) in
                let b₀ : w ≡ zeros ++ drop n (take n work) = cc in
                let b : w ≡ zeros = b₀ ∙ ap (λ rest. zeros ++ rest) nothing ∙ append-nil zeros in
                let c' : number_of x.fault ≡ c = cc in
                let i' : x.place ≡ i = cc in
                rw (b, c', i', ← e)
            go (values vs) q = let z : ◌≡◌ {A = ℕ} 0 1 = cc in absurd (omega arith)

        module _ (x : T) (p : r ≡ Ok x) (v : Result (Option ℕ) Refusal) (is : answer_of v ≡ evaluation J w) (f : Option ℕ)
            (found : v ≡ Ok f) where
          is_judged : judged_by f (w ++ drop n work) ≡ checked J reply work
          is_judged = go (values_read n reply) (rw p at read) ∙ is_weighed
            where
              go : (R : Read) → accepted w ≡ settled n (take n work) R → judged_by f (w ++ drop n work) ≡ weighed J work R
              go (refusal d i) q = let z : ◌≡◌ {A = ℕ} 0 1 = cc in absurd (omega arith)
              go (values vs) q =
                  let b₀ : w ≡ vs ++ drop n (take n work) = cc in
                  let b : w ≡ vs = b₀ ∙ ap (λ rest. vs ++ rest) nothing ∙ append-nil vs in
                  let g : f ≡ first_false J vs = is_first_false J h w v is f found ∙ ap (first_false J) b in
                  rw (g, b, ← e) (is_judgement J vs (vs ++ drop n work))

          pub is_accepted_lem : f ≡ None → accepted (w ++ drop n work) ≡ checked J reply work
          is_accepted_lem t = rw t at is_judged

          pub is_65 : (k : ℕ) → f ≡ Some k → refused 65 k (w ++ drop n work) ≡ checked J reply work
          is_65 k t = rw t at is_judged
