-- How long the texts are: the two lines of two numbers, a number of a clause, a line of a run, and all lines of a run.
use mathlib.Core.Path.{◌≡◌}
use mathlib.Core.Bool.{Bool, true, false, cond}
use mathlib.Core.List.{List, [], ◌∷◌}
use Prim.Native.Nat.{ℕ, zero, suc, ◌+◌, ◌*◌, ◌-◌, ◌^◌, ◌≤◌, ◌<◌}
use native.Mathlib.Omega.{arith}
use lib.Dec.{eqb}
use lib.IntN.{ℤ, pos, nat_abs}
use lib.Signed.{lt_z}
use lib.ListN.{length, length-append}
use mir.Syntax.{w32}
use mir.Val.{SFits}
use Rattle.lists.specs.Rows.{each, num}
use Rattle.lists.specs.Places.{first}
use Rattle.lists.proofs.RowLaws.{length_tab}
use Rattle.lists.proofs.PlaceLaws.{first_most}
use Rattle.lists.proofs.NumeralLaws.{length_few, length_small, length_word}
use Rattle.job.specs.Faults.{number_of}
use Rattle.job.specs.declared.refusal.Refusal.{Refusal}
use Rattle.job.specs.Table.{n}
use Rattle.put.specs.Names.{name_at}
use Rattle.text.specs.Dimacs.{told, number_room}
use Rattle.text.specs.Lines.{sentence, line_room, header, refused}
use Rattle.text.specs.RunText.{word, bit_text, turn_text, steps_text, line_text, run_line_room}
use Rattle.text.proofs.SignLaws.{size_small}
use Rattle.text.proofs.ToldLaws.{length_told, sign_length}

-- ---- lines of two numbers of 64 bits

sentence_length : (first : List ℕ) (x : ℕ) (second : List ℕ) (y : ℕ) → x < 2 ^ 64 → y < 2 ^ 64
    → length (sentence first x second y) ≤ length first + length second + 41
unfolding sentence
sentence_length first x second y h k =
    let a = length_word x h in
    let b = length_word y k in
    simp length-append (omega arith)

pub header_length : (variables clauses : ℕ) → variables < 2 ^ 64 → clauses < 2 ^ 64 → length (header variables clauses) ≤ line_room
header_length variables clauses h k = omega (arith, sentence_length (112 ∷ 32 ∷ 99 ∷ 110 ∷ 102 ∷ 32 ∷ []) variables (32 ∷ []) clauses h k)

pub refused_length : (f : Refusal) → number_of f.fault < 2 ^ 64 → f.place < 2 ^ 64 → length (refused f) ≤ line_room
refused_length f h k =
    let word : List ℕ = 114 ∷ 101 ∷ 102 ∷ 117 ∷ 115 ∷ 101 ∷ 100 ∷ 32 ∷ [] in
    omega (arith, sentence_length word (number_of f.fault) (32 ∷ 97 ∷ 116 ∷ 32 ∷ []) f.place h k)

-- ---- a number of a clause, of 32 bits

pub told_length : (z : ℤ) → SFits w32 z → length (told z) ≤ number_room
told_length z h =
    let digits = length_few 9 (nat_abs z) (omega (arith, size_small z h)) in
    omega (arith, length_told z, sign_length (lt_z z (pos 0)))

-- ---- a row of texts of at most k bytes each

pub each_length : (n k : ℕ) (text : ℕ → List ℕ) → ((i : ℕ) → i < n → length (text i) ≤ k) → length (each n text) ≤ n * k
unfolding each
each_length zero k text h = omega arith
each_length (suc n) k text h =
    let a = each_length n k text (λ i l. h i (omega arith)) in
    let b = h n (omega arith) in
    let e : suc n * k ≡ n * k + k = omega arith in
    rw (length-append, e) (omega arith)

-- ---- a line of a run

word_length : (names : List ℕ) (k : ℕ) → length (word names k) ≤ 5
unfolding name_at
word_length names k =
    let f : ℕ → Bool = λ j. eqb (num names (k * 4 + j)) 0 in
    omega (arith, length_tab (first 4 f) (λ j. num names (k * 4 + j)), first_most f 4)

bit_length : (names : List ℕ) (x b : ℕ) → b < 10 → length (bit_text names x b) ≤ 7
bit_length names x b h =
    let w = word_length names x in
    let d = length_small b h in
    simp length-append (omega arith)

turn_length : (b : ℕ) → length (turn_text b) ≤ 2
unfolding turn_text
turn_length b = go (eqb b 1) (eqb b 2)
  where
    go : (x y : Bool) → length {A = ℕ} (cond x (32 ∷ 65 ∷ []) (cond y (32 ∷ 66 ∷ []) [])) ≤ 2
    go true y = omega arith
    go false true = omega arith
    go false false = omega arith

steps_length : (labels : List ℕ) (group : ℕ → ℕ) (t : ℕ) → t < 100 → length (steps_text labels group t) ≤ 12
unfolding steps_text
steps_length labels group t h =
    let a = length_few 1 t (omega arith) in
    let b = word_length labels (group 0 - 1) in
    let c = word_length labels (group 1 - 1) in
    simp length-append (omega arith)

pub line_length : (labels names : List ℕ) (n : ℕ) (group : ℕ → ℕ) (t : ℕ) → t < 100 → ((x : ℕ) → x < n → group (2 + x) < 10)
    → length (line_text labels names n group t) ≤ run_line_room n
unfolding line_text
line_length labels names n group t h bits =
    let a = steps_length labels group t h in
    let b = each_length n 7 (λ x. bit_text names x (group (2 + x))) (λ x l. bit_length names x (group (2 + x)) (bits x l)) in
    let c = turn_length (group (2 + n)) in
    simp length-append (omega arith)
