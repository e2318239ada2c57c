-- The values of a reply, or its refusal, from what was heard: one law for each way out of the code.
use mathlib.Core.Path.{◌≡◌, refl, sym, ap, ◌∙◌}
use mathlib.Core.Bool.{Bool, true, false, cond}
use mathlib.Core.Logic.{◌⊎◌, inl, inr}
use mathlib.Core.List.{List, [], ◌++◌}
use Prim.Native.Nat.{ℕ, suc, ◌+◌, ◌-◌, ◌≤◌, ◌<◌}
use native.Mathlib.Omega.{arith}
use native.Mathlib.Numerals.{add-one}
use borrow.Author.Tests.{lt-ltb, le-ltb, ltb-false}
use lib.Dec.{eqb, ltb}
use lib.ListN.{length, drop}
use lib.Seq.{drop_at, drop-append-add, drop-drop}
use Rattle.lists.specs.Rows.{tab, num}
use Rattle.lists.proofs.Logic.{split}
use Rattle.lists.proofs.RowLaws.{length_tab, get_d_tab, tab_same}
use Rattle.lists.specs.Places.{found}
use Rattle.lists.proofs.PlaceLaws.{first_most, first_same, found_is, found_not}
use Rattle.job.specs.declared.Literal.{Literal}
use Rattle.job.specs.declared.refusal.Refusal.{Refusal}
use Rattle.job.specs.Faults.{number_of}
use Rattle.std.proofs.lemmas.List.{length-replicate, get_or-replicate}
use Rattle.std.proofs.Common.{Result, Ok, Err, None, Some, replicate, append-nil, ext_get_or, drop_of_length-le}
use Rattle.reply.specs.Said.{says, literals, marks}
use Rattle.reply.specs.Reply.{Heard, turned, whole, heard_in, refusal, values, truth, missing, completed, values_read}
use Rattle.reply.specs.Check.{accepted, refused, blank}
use Rattle.reply.specs.Answers.{settled, heard_of, cleaned}
use Rattle.reply.proofs.MarkLaws.{map_heard, marked, marked_at, heard_marked}

-- the whole buffer filled with zeros
pub filled : (work w : List ℕ) → w ≡ replicate {A = ℕ} (length work) 0 → w ≡ blank (length work) work
filled work w e =
    let N = length work in
    let zeros : List ℕ = tab N (λ x. 0) in
    e ∙ all N ∙ sym (append-nil zeros) ∙ ap (λ rest. zeros ++ rest) (sym (drop_of_length-le work (omega arith)))
  where
    all : (k : ℕ) → replicate {A = ℕ} k 0 ≡ tab k (λ x. 0)
    all k = ext_get_or 0 (replicate k 0) (tab k (λ x. 0)) (length-replicate k 0 ∙ sym (length_tab k (λ x. 0))) λ i l.
        let l' : i < k = omega (arith, length-replicate {A = ℕ} k 0) in
        get_or-replicate k i 0 0 l' ∙ sym (get_d_tab k (λ x. 0) i 0 l')

-- in a buffer of zeros the marks hear what the literals hear
hears : (N : ℕ) (s work w : List ℕ) → w ≡ blank N work → heard_in marks N w s
    ≡ map_heard (marked N (drop N work)) (heard_in literals N [] s)
unfolding marked says
hears N s work w e =
    let none : blank N work ≡ marked N (drop N work) [] = ap (λ (l : List ℕ). l ++ drop N work)
    (tab_same N (λ x. 0) (says []) (λ x l. refl)) in
    ap (λ (m : List ℕ). heard_in marks N m s) (e ∙ none) ∙ heard_marked N (drop N work) [] s

-- what stands behind the first N bytes
drop_row : (N x : ℕ) (f : ℕ → ℕ) (w : List ℕ) → x ≤ N → drop N (tab x f ++ drop x w) ≡ drop N w
drop_row N x f w l =
    let e : length (tab x f) + (N - x) ≡ N = omega (arith, length_tab x f) in
    let k : x + (N - x) ≡ N = omega arith in
    ap (λ (n : ℕ). drop n (tab x f ++ drop x w)) (sym e)
    ∙ drop-append-add (tab x f) (drop x w) (N - x)
    ∙ drop-drop (N - x) x w
    ∙ ap (λ (n : ℕ). drop n w) k

module _ (N : ℕ) (work w : List ℕ) (ls : List Literal) (e : w ≡ marked N (drop N work) ls) where
  rest_kept : drop N w ≡ drop N work
  unfolding marked
  rest_kept = rw e (drop_at (tab N (says ls)) (drop N work) N (length_tab N (says ls)))

  mark_is : (x : ℕ) → x < N → num w x ≡ says ls x
  mark_is x l = rw e (marked_at N (drop N work) ls x l)

  same_missing : missing N (num w) ≡ missing N (says ls)
  same_missing = first_same (λ x. eqb (num w x) 0) (λ x. eqb (says ls x) 0) N (λ x l. ap (λ (b : ℕ). eqb b 0) (mark_is x l))

  same_values : cleaned N w ≡ tab N (λ x. truth (says ls x)) ++ drop N work
  same_values = rw (rest_kept, tab_same N (λ x. truth (num w x)) (λ x. truth (says ls x)) (λ x l. ap truth (mark_is x l)))

-- ---- the buffer is cleared to z; h and w are what was heard in the reply s, with the marks

module _ (s work z w : List ℕ) (cleared : z ≡ blank (length work) work) (long : length z ≡ length work) (as_long : length w ≡ length z)
    {T : Type 0} (h : Result T Refusal) (answer : heard_of h w ≡ heard_in marks (length z) z s) where
  abbrev N : ℕ
  N = length work

  abbrev H : Heard (List Literal)
  H = heard_in literals N [] s

  heard : heard_of h w ≡ map_heard (marked N (drop N work)) H
  heard = answer ∙ ap (λ n. heard_in marks n z s) long ∙ hears N s work z cleared

  same_long : length w ≡ N
  same_long = as_long ∙ long

  pub a_fault : (r : Refusal) → h ≡ Err r → (w' : List ℕ) → w' ≡ blank (length w) w
      → refused (number_of r.fault) r.place w' ≡ settled N work (values_read N s)
  unfolding values_read
  a_fault r e w' b = ap (refused (number_of r.fault) r.place) (b ∙ ap (λ n. blank n w) same_long) ∙ go H (rw e at heard)
    where
      go : (H : Heard (List Literal)) → turned (number_of r.fault) r.place w ≡ map_heard (marked N (drop N work)) H
          → refused (number_of r.fault) r.place (blank N w) ≡ settled N work (completed N H)
      go (turned c k ls) p =
          let m : w ≡ marked N (drop N work) ls = cc in
          let same : number_of r.fault ≡ c = cc in
          let line : r.place ≡ k = cc in
          rw (rest_kept N work w ls m, same, line)
      go (whole ls) p = let z : ◌≡◌ {A = ℕ} 0 1 = cc in absurd (omega arith)

  module _ (v : T) (e : h ≡ Ok v) (w' : List ℕ) (settles : w' ≡ cleaned (missing (length w) (num w)) w) (still : length w' ≡ length w) where
    clean : w' ≡ cleaned (missing N (num w)) w
    clean = settles ∙ ap (λ n. cleaned (missing n (num w)) w) same_long

    pub a_gap : (x : ℕ) → Some x ≡ found (length w) (missing (length w) (num w)) → (w'' : List ℕ) → w'' ≡ blank (length w') w'
        → refused 64 (x + 1) w'' ≡ settled N work (values_read N s)
    unfolding values_read
    a_gap x place w'' b =
        ap (refused 64 (x + 1)) (b ∙ ap (λ n. blank n w') (still ∙ same_long) ∙ kept) ∙ go H (rw e at heard)
      where
        at_gap : (x ≡ missing N (num w)) × (missing N (num w) < N)
        at_gap = found_is N (missing N (num w)) x (place ∙ ap (λ n. found n (missing n (num w))) same_long)

        kept : blank N w' ≡ blank N w
        kept =
            let y = missing N (num w) in
            let l : y ≤ N = first_most (λ i. eqb (num w i) 0) N in
            rw clean (ap (λ (r : List ℕ). tab N (λ i. 0) ++ r) (drop_row N y (λ i. truth (num w i)) w l))

        go : (H : Heard (List Literal)) → whole w ≡ map_heard (marked N (drop N work)) H → refused 64 (x + 1) (blank N w)
            ≡ settled N work (completed N H)
        go (turned c k ls) p = let z : ◌≡◌ {A = ℕ} 0 1 = cc in absurd (omega arith)
        go (whole ls) p =
            let m : w ≡ marked N (drop N work) ls = cc in
            let t : x ≡ missing N (says ls) = at_gap.0 ∙ same_missing N work w ls m in
            rw (← t, lt-ltb x N (omega (arith, at_gap)), rest_kept N work w ls m, add-one x)

    pub all_said : None ≡ found (length w) (missing (length w) (num w)) → accepted w' ≡ settled N work (values_read N s)
    unfolding values_read
    all_said none = go H (rw e at heard)
      where
        go : (H : Heard (List Literal)) → whole w ≡ map_heard (marked N (drop N work)) H → accepted w' ≡ settled N work (completed N H)
        go (turned c k ls) p = let z : ◌≡◌ {A = ℕ} 0 1 = cc in absurd (omega arith)
        go (whole ls) p =
            let m : w ≡ marked N (drop N work) ls = cc in
            let y = missing N (num w) in
            let t : missing N (says ls) ≡ y = sym (same_missing N work w ls m) in
            let l : N ≤ y = found_not N y (none ∙ ap (λ n. found n (missing n (num w))) same_long) in
            let all : y ≡ N = omega (arith, first_most (λ i. eqb (num w i) 0) N) in
            let v : w' ≡ tab N (λ y. truth (says ls y)) ++ drop N work = clean ∙ ap (λ (n : ℕ). cleaned n w) all
            ∙ same_values N work w ls m in
            rw (t, le-ltb y N l, v)

-- ---- values that are read: the literals that were heard give them, none is missing

pub record Complete (N : ℕ) (reply vs : List ℕ) : Type 0 where
  pub listed : List Literal
  pub heard : heard_in literals N [] reply ≡ whole listed
  pub all : missing N (says listed) ≡ N
  pub are : vs ≡ tab N (λ x. truth (says listed x))

pub read_complete : (N : ℕ) (reply vs : List ℕ) → values_read N reply ≡ values vs → Complete N reply vs
unfolding values_read
read_complete N reply vs e = go (heard_in literals N [] reply) refl e
  where
    said : (ls : List Literal) → heard_in literals N [] reply ≡ whole ls
        → (ltb (missing N (says ls)) N ≡ true) ⊎ (ltb (missing N (says ls)) N ≡ false) → completed N (whole ls) ≡ values vs
        → Complete N reply vs
    said ls h (inl b) q =
        let r : refusal 64 (suc (missing N (says ls))) ≡ values vs = rw b at q in
        let z : ◌≡◌ {A = ℕ} 0 1 = cc in
        absurd (omega arith)
    said ls h (inr b) q =
        let v : values (tab N (λ x. truth (says ls x))) ≡ values vs = rw b at q in
        record {
          listed = ls;
          heard = h;
          all = omega (arith, ltb-false (missing N (says ls)) N b, first_most (λ x. eqb (says ls x) 0) N);
          are = cc;
        }

    go : (H : Heard (List Literal)) → heard_in literals N [] reply ≡ H → completed N H ≡ values vs → Complete N reply vs
    go (turned c k ls) h q = let z : ◌≡◌ {A = ℕ} 0 1 = cc in absurd (omega arith)
    go (whole ls) h q = said ls h (split (ltb (missing N (says ls)) N)) q

pub complete_reads : (N : ℕ) (reply vs : List ℕ) → Complete N reply vs → values_read N reply ≡ values vs
unfolding values_read
complete_reads N reply vs c = rw (c.heard, le-ltb (missing N (says c.listed)) N (omega (arith, c.all)), c.are)

-- ---- they are as many as the variables, and 0 or 1

pub record Values (N : ℕ) (vs : List ℕ) : Type 0 where
  pub long : length vs ≡ N
  pub small : (x : ℕ) → x < N → num vs x ≤ 1

truth_small : (b : ℕ) → truth b ≤ 1
truth_small b = go (eqb b 1)
  where
    go : (t : Bool) → cond t 1 0 ≤ 1
    go true = omega arith
    go false = omega arith

pub read_values : (N : ℕ) (reply vs : List ℕ) → values_read N reply ≡ values vs → Values N vs
read_values N reply vs e =
    let c = read_complete N reply vs e in
    let value : ℕ → ℕ = λ x. truth (says c.listed x) in
    record {
      long = ap length c.are ∙ length_tab N value;
      small = λ x l. rw (c.are, get_d_tab N value x 0 l) (truth_small (says c.listed x));
    }
