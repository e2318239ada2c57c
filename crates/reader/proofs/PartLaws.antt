-- A part in front of the rest of its text: what a reader that moved behind it has left to read.
use Rattle.std.proofs.Common.{◌≡◌, Bool, true, false, ℕ, suc, ◌+◌, ◌≤◌, List, length, take, drop, ltb, sym, ap, ◌∙◌, length-drop, arith}
use Rattle.std.specs.Int.{from_bool}
use borrow.Author.Tests.{ltb-true, ltb-false}
use lib.Seq.{drop-drop, take-length}
use Rattle.lists.specs.Pieces.{last, up_to, cut}
use Rattle.lists.proofs.PieceLaws.{cut_all, cut_first, take_up_to, length_up_to}
use Rattle.reader.specs.Parts.{joined}

pub parted : (k : ℕ) (s : List ℕ) (i n : ℕ) (e : Bool) (p : List ℕ) → i ≤ length s → p ≡ up_to k (drop i s)
    → e ≡ ltb (i + length p) (length s) → n ≡ i + (length p + from_bool e) → cut k (drop i s) ≡ joined e p (cut k (drop n s))
parted k s i n true p h is more at =
    let xs = drop i s in
    let l : length (up_to k xs) ≡ length p = ap length (sym is) in
    let some = ltb-true (i + length p) (length s) (sym more) in
    let here : take (length (up_to k xs)) xs ≡ p = take_up_to k xs ∙ sym is in
    let j : i + suc (length (up_to k xs)) ≡ n = omega arith in
    let there : drop (suc (length (up_to k xs))) xs ≡ drop n s = drop-drop (suc (length (up_to k xs))) i s ∙ ap (λ m. drop m s) j in
    cut_first k xs (omega (arith, length-drop i s)) ∙ rw (here, there)
parted k s i n false p h is more at =
    let xs = drop i s in
    let l : length (up_to k xs) ≡ length p = ap length (sym is) in
    let none = ltb-false (i + length p) (length s) (sym more) in
    let all : length (up_to k xs) ≡ length xs = omega (arith, length-drop i s, length_up_to k xs) in
    let whole : xs ≡ p = sym (ap (λ m. take m xs) all ∙ take-length xs) ∙ take_up_to k xs ∙ sym is in
    cut_all k xs all ∙ ap last whole
