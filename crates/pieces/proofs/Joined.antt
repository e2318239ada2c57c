-- The pieces joined are the clauses: `all_clauses`, at the end. A piece is a beginning of what is left, and since every clause is short
-- it has at least one; so each call leaves fewer clauses, and as many calls as there are clauses leave none.
use mathlib.Core.Path.{◌≡◌, refl, sym, ap, ◌∙◌}
use mathlib.Core.Bool.{Bool, true, false, cond}
use mathlib.Core.List.{List, [], ◌∷◌, ◌++◌, map, append_assoc}
use Prim.Native.Nat.{ℕ, zero, suc, ◌+◌, ◌-◌, ◌≤◌, ◌<◌}
use native.Mathlib.Omega.{arith}
use native.Mathlib.Decide.{dec_lt}
use borrow.Author.Tests.{lt-ltb}
use lib.Dec.{ltb}
use lib.IntN.{ℤ, pos}
use lib.ListN.{length, drop, length-drop, drop_of_length-le}
use lib.Seq.{drop-drop, take_at}
use Rattle.lists.proofs.TestLaws.{within_is, within_over}
use Rattle.job.specs.declared.Job.{Job}
use Rattle.job.specs.Literals.{Clause, signed}
use Rattle.job.specs.Clauses.{free_clauses, clauses}
use Rattle.job.specs.Fitness.{fit}
use Rattle.totals.specs.Totals.{totals_of}
use Rattle.cnf.specs.Piece.{least_room, fitting, flat, piece, written, buffer_after}
use Rattle.cnf.proofs.PieceLaws.{no_clause, no_refusal}
use Rattle.pieces.specs.AllClauses.{Short, joined, then_next, called, Roomy, EachRoomy, Asked, Gives, AllClauses}
use Rattle.pieces.proofs.ShortClauses.{clauses_short}

-- ---- what fits

-- what fits stands in front of what is left
front : (room : ℕ) (cs : List Clause) → cs ≡ fitting room cs ++ drop (length (fitting room cs)) cs
unfolding fitting
front room [] = refl
front room (c ∷ cs) = let others = fitting (room - (length c + 1)) cs in go (ltb (length c) room) others (front (room - (length c + 1)) cs)
  where
    go : (b : Bool) (others : List Clause) → cs ≡ others ++ drop (length others) cs
        → c ∷ cs ≡ cond b (c ∷ others) [] ++ drop (length (cond b (c ∷ others) [])) (c ∷ cs)
    go true others h = ap (λ (l : List Clause). c ∷ l) h
    go false others h = refl

-- of short clauses one fits
some_fits : (room : ℕ) (cs : List Clause) → least_room ≤ room → 0 < length cs → Short cs → 0 < length (fitting room cs)
unfolding fitting
some_fits room [] h l s = absurd (omega arith)
some_fits room (c ∷ cs) h l s = rw (lt-ltb (length c) room (omega (arith, s.0))) (omega arith)

drop_short : (i : ℕ) (cs : List Clause) → Short cs → Short (drop i cs)
drop_short zero cs h = h
drop_short (suc i) [] h = tt
drop_short (suc i) (c ∷ cs) h = drop_short i cs h.1

pub flat_append : (a b : List Clause) → flat (a ++ b) ≡ flat a ++ flat b
unfolding flat
flat_append [] b = refl
flat_append (c ∷ cs) b =
    let line : List ℤ = map signed c ++ (pos 0 ∷ []) in
    ap (λ l. line ++ l) (flat_append cs b) ∙ sym (append_assoc line (flat cs) (flat b))

module _ (J : Job) (h : fit J ≡ true) where
  abbrev cs : List Clause
  cs = clauses J

  beginning : (c room : ℕ) → drop (c - 1) cs ≡ piece J c room ++ drop (c - 1 + length (piece J c room)) cs
  beginning c room =
      front room (drop (c - 1) cs)
      ∙ ap (λ l. piece J c room ++ l) (drop-drop (length (piece J c room)) (c - 1) cs)

  never_empty : (c room : ℕ) → Asked J c room → 0 < length (piece J c room)
  never_empty c room a =
      some_fits room (drop (c - 1) cs) a.wide (omega (arith, a.first, a.last, length-drop (c - 1) cs))
      (drop_short (c - 1) cs (clauses_short J h))

  call : (c : ℕ) (old : List ℤ) → Asked J c (length old) → Gives J c old (piece J c (length old))
  unfolding written buffer_after
  call c old a =
      let e = no_refusal J c (length old) h (within_is 1 (length cs) c a.first a.last) a.wide in
      record { answer = rw e refl; buffer = rw e refl }

  -- ---- one call after the other

  -- a call leaves fewer clauses, if there are any
  fewer : (c room calls : ℕ) → 1 ≤ c → least_room ≤ room → length cs < c + suc calls
      → length cs < c + length (piece J c room) + calls
  fewer c room calls low wide l = go (dec_lt (length cs) c)
    where
      go : Dec (length cs < c) → length cs < c + length (piece J c room) + calls
      go (yes past) = omega arith
      go (no here) =
          let some = never_empty c room (record { first = low; last = omega arith; wide = wide }) in
          omega (arith, some, l)

  pieces_from : (c : ℕ) (rooms : List ℕ) → 1 ≤ c → Roomy rooms → length cs < c + length rooms → joined J c rooms ≡ drop (c - 1) cs
  unfolding joined
  pieces_from c [] low wide l = sym (drop_of_length-le cs {i = c - 1} (omega arith))
  pieces_from c (room ∷ rooms) low wide l =
      let k = length (piece J c room) in
      let e : c + k - 1 ≡ c - 1 + k = omega arith in
      let others = pieces_from (c + k) rooms (omega arith) wide.1 (fewer c room (length rooms) low wide.0 l) in
      ap (λ x. piece J c room ++ x) (others ∙ ap (λ i. drop i cs) e) ∙ sym (beginning c room)

  -- the numbers of one call, and then those that the calls after it have to write
  call_then : (c : ℕ) (old : List ℤ) (next : ℕ → List ℤ) → 1 ≤ c → least_room ≤ length old
      → next (length (piece J c (length old))) ≡ flat (drop (c + length (piece J c (length old)) - 1) cs)
      → then_next (written J c old) (buffer_after J c old) next ≡ flat (drop (c - 1) cs)
  unfolding flat
  call_then c old next low wide others = go (dec_lt (length cs) c)
    where
      go : Dec (length cs < c) → then_next (written J c old) (buffer_after J c old) next ≡ flat (drop (c - 1) cs)
      go (yes past) =
          let refused = no_clause J c old h (within_over 1 (length cs) c past) in
          rw (← refused.answer) (ap flat (sym (drop_of_length-le cs {i = c - 1} (omega arith))))
      go (no here) =
          let p = piece J c (length old) in
          let given = call c old (record { first = low; last = omega arith; wide = wide }) in
          let e : c + length p - 1 ≡ c - 1 + length p = omega arith in
          rw (given.answer, given.buffer)
          (ap (λ x. x ++ next (length p)) (take_at (flat p) (drop (0 + length (flat p)) old) (length (flat p)) refl)
          ∙ ap (λ x. flat p ++ x) (others ∙ ap (λ i. flat (drop i cs)) e)
          ∙ sym (flat_append p (drop (c - 1 + length p) cs))
          ∙ ap flat (sym (beginning c (length old))))

  calls_from : (c : ℕ) (olds : List (List ℤ)) → 1 ≤ c → EachRoomy olds → length cs < c + length olds
      → called J c olds ≡ flat (drop (c - 1) cs)
  unfolding called flat
  calls_from c [] low wide l = ap flat (sym (drop_of_length-le cs {i = c - 1} (omega arith)))
  calls_from c (old ∷ olds) low wide l =
      let k = length (piece J c (length old)) in
      call_then c old (λ i. called J (c + i) olds) low wide.0
      (calls_from (c + k) olds (omega arith) wide.1 (fewer c (length old) (length olds) low wide.0 l))

pub all_clauses : (J : Job) → fit J ≡ true → AllClauses J
unfolding clauses free_clauses totals_of
all_clauses J h = record {
  some = omega arith;
  short = clauses_short J h;
  totals = rw h refl;
  call = call J h;
  never_empty = never_empty J h;
  beginning = beginning J h;
  pieces = λ rooms wide l. pieces_from J h 1 rooms (omega arith) wide (omega arith);
  calls = λ olds wide l. calls_from J h 1 olds (omega arith) wide (omega arith);
}
