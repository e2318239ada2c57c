-- The plain reply of values is read back as these values, word by word, and is short: `plain_replies`, at the end.
use mathlib.Core.Path.{◌≡◌, refl, sym, ap, ◌∙◌}
use mathlib.Core.Bool.{Bool, true, false, not}
use mathlib.Core.List.{List, [], ◌∷◌}
use Prim.Native.Nat.{ℕ, zero, suc, ◌+◌, ◌*◌, ◌≤◌, ◌<◌}
use native.Mathlib.Omega.{arith}
use native.Mathlib.Nat.{add-zero, zero-add}
use borrow.Author.Tests.{eqb-true, leb-true, eq-eqb, ne_eqb, lt-ltb}
use lib.Dec.{eqb}
use lib.ListN.{length, length-append}
use lib.Seq.{ext_get_or}
use Rattle.lists.specs.Rows.{tab, num}
use Rattle.lists.specs.Tests.{every, within}
use Rattle.lists.specs.Places.{first}
use Rattle.lists.specs.Pieces.{last, piece, cut, starts, is}
use Rattle.lists.specs.Numerals.{digits_below, numeral}
use Rattle.lists.proofs.RowLaws.{length_tab, get_d_tab}
use Rattle.lists.proofs.TestLaws.{passed, all_at, all_of}
use Rattle.lists.proofs.PlaceLaws.{row_all}
use Rattle.lists.proofs.PieceLaws.{Without, without_append, cut_front}
use Rattle.lists.proofs.NumeralLaws.{length_few, digits_numeral, digits_without}
use Rattle.job.specs.declared.Job.{Job}
use Rattle.job.specs.declared.Literal.{Literal}
use Rattle.job.specs.Literals.{valued}
use Rattle.job.specs.Numbering.{total}
use Rattle.job.specs.Meaning.{Run, is_run}
use Rattle.job.specs.Fitness.{fit}
use Rattle.job.specs.Satisfaction.{are_values, satisfies}
use Rattle.job.specs.ReadOff.{run, read_off}
use Rattle.job.specs.RunToValues.{values_of}
use Rattle.job.proofs.Accuracy.{accuracy}
use Rattle.totals.proofs.Largest.{total_most}
use Rattle.tokens.specs.declared.Token.TheVariants.{Number}
use Rattle.tokens.specs.Numbers.{front, decimal, allowed, max_number, unsigned, token}
use Rattle.tokens.specs.Kinds.{satisfiable}
use Rattle.tokens.proofs.NumeralLaws.{numeral_token, minus_token}
use Rattle.reply.specs.Said.{says, literals}
use Rattle.reply.specs.Lines.{opening, Part, more, closed, goes, after, say_in, numbers_in, value_line_in, value_lines_in, closing}
use Rattle.reply.specs.Reply.{Heard, whole, heard_in, started, spoken, values, truth, missing, values_read}
use Rattle.reply.specs.Check.{accepted, max_reply, holding, checked}
use Rattle.reply.specs.PlainReply.{signed_numeral, numbers_from, plain_reply, PlainReplies}
use Rattle.reply.proofs.ReplyLaws.{complete_reads, Values}
use Rattle.reply.proofs.Satisfying.{satisfying_accepted}

-- ---- one number

number_token : (on : Bool) (x : ℕ) → suc x ≤ max_number → token (signed_numeral on x) ≡ Number (valued on x) true
unfolding signed_numeral
number_token true x l = numeral_token x l
number_token false x l = minus_token x l

-- a space or LF is not in it
number_without : (k : ℕ) → k < 45 → (on : Bool) (x : ℕ) → Without k (signed_numeral on x)
unfolding signed_numeral
number_without k l true x = digits_without k (omega arith) (numeral (suc x)) (digits_numeral (suc x))
number_without k l false x = (λ e. omega arith, digits_without k (omega arith) (numeral (suc x)) (digits_numeral (suc x)))

number_length : (on : Bool) (x : ℕ) → suc x ≤ max_number → length (signed_numeral on x) ≤ 8
unfolding signed_numeral
number_length true x l = omega (arith, length_few 6 (suc x) (omega arith))
number_length false x l = omega (arith, length_few 6 (suc x) (omega arith))

-- ---- what the numbers say

abbrev sign : Bool → ℕ
sign true = 1
sign false = 2

-- the literals of the values from place x on, the last first, in front of ls
abbrev literals_from : ℕ → List ℕ → List Literal → List Literal
literals_from x [] ls = ls
literals_from x (v ∷ vs) ls = literals_from (suc x) vs (valued (eqb v 1) x ∷ ls)

says_same : (b : Bool) (x : ℕ) (ls : List Literal) → says (valued b x ∷ ls) x ≡ sign b
unfolding says
says_same true x ls = rw (eq-eqb x x refl)
says_same false x ls = rw (eq-eqb x x refl)

says_other : (b : Bool) (x : ℕ) (ls : List Literal) (y : ℕ) → (x ≡ y → ⊥) → says (valued b x ∷ ls) y ≡ says ls y
unfolding says
says_other true x ls y h = rw (ne_eqb x y h)
says_other false x ls y h = rw (ne_eqb x y h)

says_before : (x : ℕ) (vs : List ℕ) (ls : List Literal) (y : ℕ) → y < x → says (literals_from x vs ls) y ≡ says ls y
says_before x [] ls y l = refl
says_before x (v ∷ vs) ls y l =
    says_before (suc x) vs (valued (eqb v 1) x ∷ ls) y (omega arith) ∙ says_other (eqb v 1) x ls y (λ e. omega arith)

says_at : (x : ℕ) (vs : List ℕ) (ls : List Literal) (i : ℕ) → i < length vs
    → says (literals_from x vs ls) (x + i) ≡ sign (eqb (num vs i) 1)
says_at x [] ls i l = absurd (omega arith)
says_at x (v ∷ vs) ls zero l =
    ap (says (literals_from x (v ∷ vs) ls)) (add-zero x)
    ∙ says_before (suc x) vs (valued (eqb v 1) x ∷ ls) x (omega arith)
    ∙ says_same (eqb v 1) x ls
says_at x (v ∷ vs) ls (suc i) l =
    let e : x + suc i ≡ suc x + i = omega arith in
    ap (says (literals_from x (v ∷ vs) ls)) e ∙ says_at (suc x) vs (valued (eqb v 1) x ∷ ls) i (omega arith)

-- ---- the numbers, read one by one: of places from x on nothing is said yet

module _ (N : ℕ) (few : N ≤ max_number) where
  say_number : (b : Bool) (x : ℕ) (ls : List Literal) → x < N → says ls x ≡ 0
      → say_in literals N ls (token (signed_numeral b x)) ≡ more (valued b x ∷ ls)
  unfolding say_in
  say_number true x ls l none = rw (number_token true x (omega arith), lt-ltb x N l, none)
  say_number false x ls l none = rw (number_token false x (omega arith), lt-ltb x N l, none)

  numbers_say : (x : ℕ) (vs : List ℕ) (ls : List Literal) → x + length vs ≤ N → ((y : ℕ) → x ≤ y → says ls y ≡ 0)
      → numbers_in literals N ls (cut 32 (numbers_from x vs)) ≡ closed (literals_from x vs ls)
  unfolding numbers_in numbers_from numeral digits_below say_in cut token unsigned allowed front decimal within every
  numbers_say x [] ls l none = refl
  numbers_say x (v ∷ vs) ls l none =
      let b = eqb v 1 in
      let rest : List ℕ = numbers_from (suc x) vs in
      let next : Part (List Literal) → Part (List Literal) = λ p. goes p (λ m. numbers_in literals N m (cut 32 rest)) in
      ap (numbers_in literals N ls) (cut_front 32 (signed_numeral b x) rest (number_without 32 (omega arith) b x))
      ∙ ap next (say_number b x ls (omega arith) (none x (omega arith)))
      ∙ numbers_say (suc x) vs (valued b x ∷ ls) (omega arith) (λ y h. says_other b x ls y (λ e. omega arith) ∙ none y (omega arith))

-- ---- the two lines

numbers_without : (x : ℕ) (vs : List ℕ) → Without 10 (numbers_from x vs)
unfolding numbers_from
numbers_without x [] = digits_without 10 (omega arith) (numeral 0) (digits_numeral 0)
numbers_without x (v ∷ vs) =
    without_append 10 (signed_numeral (eqb v 1) x) (32 ∷ numbers_from (suc x) vs) (number_without 10 (omega arith) (eqb v 1) x)
    (λ e. omega arith, numbers_without (suc x) vs)

line_without : (vs : List ℕ) → Without 10 (118 ∷ 32 ∷ numbers_from 0 vs)
line_without vs = (λ e. omega arith, (λ e. omega arith, numbers_without 0 vs))

cut_plain : (vs : List ℕ) → cut 10 (plain_reply vs) ≡ piece satisfiable (piece (118 ∷ 32 ∷ numbers_from 0 vs) (last []))
unfolding plain_reply cut
cut_plain vs = let line : List ℕ = 118 ∷ 32 ∷ numbers_from 0 vs in ap (piece satisfiable) (cut_front 10 line [] (line_without vs))

plain_heard : (N : ℕ) → N ≤ max_number → (vs : List ℕ) → length vs ≤ N
    → heard_in literals N [] (plain_reply vs) ≡ whole (literals_from 0 vs [])
unfolding heard_in opening value_lines_in value_line_in closing starts is says
plain_heard N few vs l =
    let line : Part (List Literal) → Heard (List Literal) = λ p.
    spoken (after 2 p (last []) (λ m. value_lines_in literals N 3 m (last []))) in
    ap (λ ps. started [] (opening 1 ps) (λ k qs. spoken (value_lines_in literals N k [] qs))) (cut_plain vs)
    ∙ ap line (numbers_say N few 0 vs [] (omega arith) (λ y h. refl))

-- ---- the values

truth_mark : (v : ℕ) → v ≤ 1 → truth (sign (eqb v 1)) ≡ v
truth_mark zero l = refl
truth_mark (suc zero) l = refl
truth_mark (suc (suc v)) l = absurd (omega arith)

mark_some : (b : Bool) → not (eqb (sign b) 0) ≡ true
mark_some true = refl
mark_some false = refl

module _ (N : ℕ) (vs : List ℕ) (v : Values N vs) where
  abbrev said : ℕ → ℕ
  said = says (literals_from 0 vs [])

  said_at : (x : ℕ) → x < N → said x ≡ sign (eqb (num vs x) 1)
  said_at x l = let k : x < length vs = omega (arith, v.long) in ap said (sym (zero-add x)) ∙ says_at 0 vs [] x k

  all_said : missing N said ≡ N
  unfolding first
  all_said =
      let some : ℕ → Bool = λ x. not (eqb (said x) 0) in
      row_all some N (all_of some N λ x l. ap (λ (k : ℕ). not (eqb k 0)) (said_at x l) ∙ mark_some (eqb (num vs x) 1))

  values_back : vs ≡ tab N (λ x. truth (said x))
  values_back =
      let value : ℕ → ℕ = λ x. truth (said x) in
      ext_get_or 0 vs (tab N value) (v.long ∙ sym (length_tab N value)) λ x l.
      let k : x < N = omega (arith, v.long) in
      sym (get_d_tab N value x 0 k ∙ ap truth (said_at x k) ∙ truth_mark (num vs x) (v.small x k))

  plain_reads : N ≤ max_number → values_read N (plain_reply vs) ≡ values vs
  plain_reads few = complete_reads N (plain_reply vs) vs (record {
    listed = literals_from 0 vs [];
    heard = plain_heard N few vs (omega (arith, v.long));
    all = all_said;
    are = values_back;
  })

-- ---- how long it is: at most 9 bytes a number

length_numbers : (x : ℕ) (vs : List ℕ) → x + length vs ≤ max_number → length (numbers_from x vs) ≤ 9 * length vs + 1
unfolding numbers_from
length_numbers x [] l = length_few 0 0 (omega arith)
length_numbers x (v ∷ vs) l =
    let a = number_length (eqb v 1) x (omega arith) in
    let b = length_numbers (suc x) vs (omega arith) in
    rw length-append (omega arith)

length_plain : (vs : List ℕ) → length vs ≤ max_number → length (plain_reply vs) ≤ 9 * length vs + 18
unfolding plain_reply
length_plain vs l =
    let a = length_numbers 0 vs (omega arith) in
    omega (arith, length-append (numbers_from 0 vs) (10 ∷ []))

-- ---- of a fit job

module _ (J : Job) (fits : fit J ≡ true) where
  abbrev N : ℕ
  N = total J.program

  are_values_lem : (vs : List ℕ) → are_values J vs ≡ true → Values N vs
  unfolding are_values
  are_values_lem vs h =
      let (long, (small, _)) = passed _ h in
      record { long = eqb-true (length vs) N long; small = λ x l. leb-true (num vs x) 1 (all_at _ N small x l) }

  of_values : (vs : List ℕ) → are_values J vs ≡ true → values_read N (plain_reply vs) ≡ values vs
  of_values vs h = plain_reads N vs (are_values_lem vs h) (omega (arith, total_most J fits))

  short_enough : (vs : List ℕ) → are_values J vs ≡ true → length (plain_reply vs) ≤ max_reply
  short_enough vs h =
      let e = (are_values_lem vs h).long in
      let most = total_most J fits in
      omega (arith, length_plain vs (omega arith))

  satisfying : (vs work : List ℕ) → satisfies J vs ≡ true → N ≤ length work
      → checked J (plain_reply vs) work ≡ accepted (holding N work vs)
  unfolding satisfies
  satisfying vs work h room =
      let (a, _) = passed _ h in
      satisfying_accepted J (plain_reply vs) work (holding N work vs) (record {
        fits = fits;
        room = room;
        short = short_enough vs a;
        said = vs;
        reads = of_values vs a;
        satisfied = h;
        holds = refl;
      })

  of_a_run : (R : Run) (work : List ℕ) → is_run J R ≡ true → N ≤ length work
      → (checked J (plain_reply (values_of J.program R)) work ≡ accepted (holding N work (values_of J.program R)))
      × (read_off J.program (values_of J.program R) ≡ run R)
  of_a_run R work is room =
      let (holds, reads) = (accuracy J fits).of_a_run R is in
      (satisfying (values_of J.program R) work holds room, reads)

pub plain_replies : (J : Job) → fit J ≡ true → PlainReplies J
plain_replies J fits = record {
  reads = of_values J fits;
  short = short_enough J fits;
  accepts = satisfying J fits;
  of_a_run = of_a_run J fits;
}
