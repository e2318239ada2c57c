-- The text of a piece is that of its clauses, and pieces joined have the texts joined.
use mathlib.Core.Path.{◌≡◌, refl, sym, ap, ◌∙◌}
use mathlib.Core.Bool.{Bool, true, false, cond}
use mathlib.Core.List.{List, [], ◌++◌, append_assoc}
use Prim.Native.Nat.{ℕ, zero, suc, ◌+◌, ◌*◌, ◌-◌, ◌≤◌, ◌<◌}
use native.Mathlib.Omega.{arith}
use native.Mathlib.Decide.{dec_lt}
use borrow.Author.Tests.{ne_eqb}
use lib.Dec.{eqb}
use lib.IntN.{ℤ}
use lib.ListN.{length, take, drop, length-append, length-drop, drop_of_length-le}
use lib.Seq.{take_at}
use Rattle.lists.proofs.TestLaws.{within_is}
use Rattle.lists.specs.Rows.{each}
use Rattle.lists.specs.Writing.{write}
use Rattle.lists.proofs.WritingLaws.{write_none}
use Rattle.job.specs.declared.Job.{Job}
use Rattle.job.specs.Answers.{gives}
use Rattle.job.specs.declared.refusal.Refusal.{Refusal}
use Rattle.job.specs.Literals.{Clause}
use Rattle.job.specs.Clauses.{clauses}
use Rattle.job.specs.Fitness.{fit}
use Rattle.std.specs.Prelude.{Result, Ok, Err}
use Rattle.job.specs.Answers.{answer_of}
use Rattle.cnf.specs.declared.Piece.{Piece as Given}
use Rattle.cnf.specs.Piece.{least_room, fitting, flat, piece, refusal, answer, buffer, written, buffer_after}
use Rattle.cnf.proofs.PieceLaws.{no_refusal}
use Rattle.pieces.proofs.Joined.{flat_append, all_clauses}
use Rattle.text.specs.declared.Texted.{Texted}
use Rattle.text.specs.Texts.{texted, with_texts}
use Rattle.text.specs.Dimacs.{number_room, number_text, numbers_text}
use Rattle.text.proofs.AllTexts.{texts_counted, numbers_are, numbers_append}
use Rattle.outputs.specs.Dimacs.{clause_text, next_piece, PieceText}

-- ---- the text of a piece

-- pieces joined have the texts joined
pub clause_text_append : (a b : List Clause) → clause_text (a ++ b) ≡ clause_text a ++ clause_text b
clause_text_append a b = ap numbers_text (flat_append a b) ∙ numbers_append (flat a) (flat b)

-- no clause leaves the buffer as it is
pub no_text : (cs : List Clause) (out : List ℕ) → cs ≡ [] → PieceText cs out (record { clauses = 0; length = 0 }) out
unfolding flat numbers_text
no_text cs out e = rw e (record { clauses = refl; bytes = refl; holds = write_none out 0 })

module _ (J : Job) (c : ℕ) (old new : List ℤ) (w : Result Given Refusal)
    (given : (answer_of w ≡ written J c old) × (new ≡ buffer_after J c old)) where
  abbrev cs : List Clause
  cs = next_piece J c (length old)

  pub piece_refused : (f : Refusal) → w ≡ Err f → next_piece J c (length old) ≡ []
  unfolding written next_piece
  piece_refused f e = go (refusal J c (length old)) (sym (ap answer_of e) ∙ given.0)
    where
      go : (x : ℕ) → answer_of (Err f) ≡ answer x (piece J c (length old)) → cond (eqb x 0) (piece J c (length old)) [] ≡ []
      go zero h = let z : ◌≡◌ {A = ℕ} 0 1 = cc in absurd (omega arith)
      go (suc x) h = rw (ne_eqb (suc x) 0 (λ e. omega arith))

  pub piece_given : (p : Given) → w ≡ Ok p → let cs = next_piece J c (length old) in
      (p.clauses ≡ length cs) × (p.numbers ≡ length (flat cs)) × (new ≡ write old 0 (flat cs))
  unfolding written buffer_after next_piece
  piece_given p e = go (refusal J c (length old)) (sym (ap answer_of e) ∙ given.0) given.1
    where
      go : (x : ℕ) → gives p ≡ answer x (piece J c (length old)) → new ≡ buffer x (piece J c (length old)) old
          → let cs = cond (eqb x 0) (piece J c (length old)) [] in
          (p.clauses ≡ length cs) × (p.numbers ≡ length (flat cs)) × (new ≡ write old 0 (flat cs))
      go zero h b =
          let cs = piece J c (length old) in
          let i : p ≡ record { clauses = length cs; numbers = length (flat cs) } = cc in
          (ap (λ (i : Given). i.clauses) i, ap (λ (i : Given). i.numbers) i, b)
      go (suc x) h b = let z : ◌≡◌ {A = ℕ} 0 1 = cc in absurd (omega arith)

  -- the numbers written are the front of the buffer, whatever follows
  module _ (p : Given) (e : w ≡ Ok p) (same : length new ≡ length old) where
    pub piece_within : p.numbers ≤ length old
    piece_within =
        let (_, i, h) = piece_given p e in
        let f = flat cs in
        omega (arith, ap length h ∙ length-append f (drop (0 + length f) old), length-drop (0 + length f) old)

    pub piece_front : (rest : List ℤ) → take p.numbers (new ++ rest) ≡ flat (next_piece J c (length old))
    piece_front rest =
        let (_, i, h) = piece_given p e in
        let f = flat cs in
        ap (λ l. take p.numbers (l ++ rest)) h ∙ ap (take p.numbers) (append_assoc f (drop (0 + length f) old) rest)
        ∙ take_at f (drop (0 + length f) old ++ rest) p.numbers (sym i)

    -- and their text is that of the clauses
    pub piece_text : (rest : List ℤ) (out out' : List ℕ) (t : Texted)
        → let xs = take p.numbers (new ++ rest) in
        ((t ≡ texted (length xs) (number_text xs) out) × (out' ≡ with_texts (length xs) (number_text xs) out))
        × (length xs * number_room ≤ length out → t.count ≡ length xs)
        → length old * number_room ≤ length out
        → PieceText (next_piece J c (length old)) out (record { clauses = p.clauses; length = t.bytes }) out'
    piece_text rest out out' t (said, counts) room =
        let (j, i, h) = piece_given p e in
        let xs : List ℤ = take p.numbers (new ++ rest) in
        let front : xs ≡ flat cs = piece_front rest in
        let all = texts_counted (length xs) (number_text xs) out out' t said (counts (omega (arith, ap length front, piece_within))) in
        let same : each (length xs) (number_text xs) ≡ clause_text cs = numbers_are xs ∙ ap numbers_text front in
        record { clauses = j; bytes = all.0 ∙ ap length same; holds = all.1 ∙ ap (write out 0) same }

-- ---- the loop over the pieces: each has a clause, and no more than are left

-- both ways of a branch are the same
cond_same : {T : Type 0} (b : Bool) (x y : T) → x ≡ y → cond b x y ≡ x
cond_same true x y e = refl
cond_same false x y e = sym e

-- the clause call refuses no piece but one past the last clause, which is empty
pub next_is : (J : Job) → fit J ≡ true → (c room : ℕ) → 1 ≤ c → least_room ≤ room → next_piece J c room ≡ piece J c room
unfolding next_piece fitting
next_is J h c room low wide = go (dec_lt (length (clauses J)) c)
  where
    go : Dec (length (clauses J) < c) → cond (eqb (refusal J c room) 0) (piece J c room) [] ≡ piece J c room
    go (yes past) = cond_same (eqb (refusal J c room) 0) (piece J c room) []
        (ap (fitting room) (drop_of_length-le (clauses J) {i = c - 1} (omega arith)))
    go (no here) = rw (no_refusal J c room h (within_is 1 (length (clauses J)) c low (omega arith)) wide)

pub next_some : (J : Job) → fit J ≡ true → (c room : ℕ) → 1 ≤ c → c ≤ length (clauses J) → least_room ≤ room
    → (0 < length (next_piece J c room)) × (c + length (next_piece J c room) ≤ length (clauses J) + 1)
next_some J h c room low high wide =
    let all = all_clauses J h in
    let some = all.never_empty c room (record { first = low; last = high; wide = wide }) in
    let behind = drop (c - 1 + length (piece J c room)) (clauses J) in
    let parts = ap length (all.beginning c room) ∙ length-append (piece J c room) behind in
    rw (next_is J h c room low wide) (some, omega (arith, parts, length-drop (c - 1) (clauses J)))
