-- Laws of texts one behind the other: the loop that writes them begins, goes on, and ends at the first that does not fit.
use mathlib.Core.Path.{◌≡◌, refl, sym, ap, ◌∙◌}
use mathlib.Core.Bool.{Bool, true, false}
use mathlib.Core.Logic.{◌⊎◌, inl, inr}
use mathlib.Core.List.{List, [], ◌∷◌}
use Prim.Native.Nat.{ℕ, zero, suc, ◌+◌, ◌*◌, ◌-◌, ◌≤◌, ◌<◌}
use native.Mathlib.Decide.{ℕ_discrete}
use native.Mathlib.Omega.{arith}
use native.Mathlib.Nat.{mul-le-mul_right}
use native.Mathlib.Numerals.{add-one}
use borrow.Author.Tests.{leb-true, leb-false, le-leb, lt-leb}
use lib.Dec.{leb}
use lib.ListN.{length, take, length-append}
use Rattle.lists.specs.Rows.{each, tab}
use Rattle.lists.specs.Places.{passing}
use Rattle.lists.specs.Writing.{write}
use Rattle.lists.proofs.Logic.{split}
use Rattle.lists.proofs.RowLaws.{length_tab}
use Rattle.lists.proofs.PlaceLaws.{passing_stop, row_most, row_next, row_found}
use Rattle.lists.proofs.WritingLaws.{write_none}
use Rattle.put.specs.declared.Page.{Page}
use Rattle.put.specs.Put.{Adds, Puts}
use Rattle.put.proofs.PutLaws.{put_none, put_most, put_own, put_then, put_fits, put_without, put_front, put_length, adds_whole}
use Rattle.text.specs.Texts.{fitting, texted, with_texts, PutsWhole}

-- text i fits behind those before it
abbrev fits : (ℕ → List ℕ) → List ℕ → ℕ → Bool
fits text old i = leb (length (each (suc i) text)) (length old)

longer : (text : ℕ → List ℕ) (i : ℕ) → length (each (suc i) text) ≡ length (each i text) + length (text i)
unfolding each
longer text i = length-append (each i text) (text i)

-- the first i texts are put, and each fits
pub record Begun (text : ℕ → List ℕ) (start page : Page) (i : ℕ) : Type 0 where
  pub put : Puts (length start.out.now) start page (each i text)
  pub all_fit : passing (tab i (fits text start.out.now)) ≡ i

module _ (text : ℕ → List ℕ) (start : Page) (front : start.end ≡ 0) where
  pub begun_none : Begun text start start 0
  unfolding each passing
  begun_none = record { put = put_most (put_none start) (omega arith); all_fit = refl }

  module _ (i : ℕ) {page : Page} (b : Begun text start page i) where
    pub begun_end : page.end ≡ length (each i text)
    begun_end = omega (arith, b.put.end)

    pub begun_length : length page.out.now ≡ length start.out.now
    begun_length = put_length b.put (omega arith)

    pub begun_next : {most : ℕ} {new : Page} → Puts most page new (text i) → length (text i) ≤ length page.out.now - page.end
        → Begun text start new (i + 1)
    unfolding each
    begun_next p h =
        let n = begun_end in
        let room = begun_length in
        let put = put_then (put_own b.put) (put_own p) (omega (arith, b.put.short)) in
        record {
          put = rw (add-one i) (put_most put (omega arith));
          all_fit = row_next (fits text start.out.now) i b.all_fit
              (le-leb (length (each (suc i) text)) (length start.out.now) (omega (arith, longer text i)));
        }

    ended : (n : ℕ) → fitting n text (length start.out.now) ≡ i
        → (record { count = i; bytes = page.end } ≡ texted n text start.out.now) × (page.out.now ≡ with_texts n text start.out.now)
    unfolding texted with_texts
    ended n e = (rw (e, begun_end), rw e (b.put.out ∙ ap (λ (k : ℕ). write start.out.now k (each i text)) front))

    pub begun_full : (n : ℕ) → i < n → length page.out.now - page.end < length (text i)
        → (record { count = i; bytes = page.end } ≡ texted n text start.out.now) × (page.out.now ≡ with_texts n text start.out.now)
    unfolding fitting
    begun_full n l h = ended n (row_found (fits text start.out.now) i n b.all_fit
        (lt-leb (length (each (suc i) text)) (length start.out.now) (omega (arith, longer text i, begun_end, begun_length))) l)

    pub begun_all : (n : ℕ) → i ≡ n
        → (record { count = i; bytes = page.end } ≡ texted n text start.out.now) × (page.out.now ≡ with_texts n text start.out.now)
    unfolding fitting
    begun_all n e = ended n (rw (← e) b.all_fit)

  -- the call that puts the next one tells whether it went on
  module _ (i : ℕ) {most : ℕ} {page new : Page} {told : Bool} (b : Begun text start page i)
      (p : PutsWhole most page new told (text i)) where
    pub begun_more : told ≡ true → Begun text start new (i + 1)
    begun_more e =
        let h = leb-true _ _ (sym p.fits ∙ e) in
        begun_next i b (put_fits p.adds h) (omega arith)

    -- so many bytes for each are enough so far
    pub begun_short : told ≡ true → page.end ≤ i * most → new.end ≤ (i + 1) * most
    begun_short e h =
        let q = put_fits p.adds (leb-true _ _ (sym p.fits ∙ e)) in
        omega (arith, q.end, p.short)

    pub begun_room : told ≡ false → page.end ≤ i * most → (n : ℕ) → i < n → n * most ≤ length start.out.now → ⊥
    begun_room e h n l room =
        let k = leb-false _ _ (sym p.fits ∙ e) in
        let m = mul-le-mul_right {m = suc i} {n = n} most l in
        omega (arith, p.short, begun_length i b)

    pub begun_stop : (n : ℕ) → i < n → told ≡ false
        → (record { count = i; bytes = new.end } ≡ texted n text start.out.now) × (new.out.now ≡ with_texts n text start.out.now)
    begun_stop n l e =
        let h = leb-false _ _ (sym p.fits ∙ e) in
        let (end, out) = put_without p.adds h in
        rw (end, out) (begun_full i b n l (omega (arith, b.put.short, begun_end i b, begun_length i b)))

-- a text is put at once where there is room for the longest, by way of a page over the same buffer
pub put_here : {most : ℕ} {old first line new : Page} {text : List ℕ} → Puts most first line text → first.end ≡ old.end
    → first.out.now ≡ old.out.now → old.end + most ≤ length old.out.now → new.out.ghost_name ≡ old.out.ghost_name → new.end ≡ line.end
    → new.out.now ≡ line.out.now → PutsWhole most old new true text
put_here {old} {line} {new} {text} put e o h same n w =
    let whole : new.out.now ≡ write old.out.now old.end text = w ∙ put.out ∙ rw (e, o) refl in
    record {
      short = put.short;
      fits = sym (le-leb (old.end + length text) (length old.out.now) (omega (arith, put.short)));
      adds = adds_whole old text new (omega (arith, put.short)) same (omega (arith, n, put.end, e)) whole;
    }

-- a text that was made on a page of its own and is put from there
pub put_made : {most : ℕ} {first line old new : Page} {told : Bool} {text x : List ℕ} → Puts most first line text → first.end ≡ 0
    → told ≡ leb (old.end + line.end) (length old.out.now) → Adds old new (take line.end x) → x ≡ line.out.now
    → PutsWhole most old new told text
put_made {line} {text} made front t a e =
    let n : line.end ≡ length text = omega (arith, made.end) in
    record { short = made.short; fits = rw n at t; adds = rw (e, put_front made front) at a }

-- no texts
pub texts_none : (text : ℕ → List ℕ) (old : List ℕ) → (record { count = 0; bytes = 0 } ≡ texted 0 text old) × (old ≡ with_texts 0 text old)
unfolding texted with_texts fitting passing each
texts_none text old = (refl, write_none old 0)

-- what is written lies in the buffer
module _ (text : ℕ → List ℕ) (old : List ℕ) where
  within : (n : ℕ) → length (each (passing (tab n (fits text old))) text) ≤ length old
  unfolding each passing
  within zero = omega arith
  within (suc n) = go (ℕ_discrete (passing (tab n (fits text old))) n) (split (fits text old n)) (within n)
    where
      go : Dec (passing (tab n (fits text old)) ≡ n) → (fits text old n ≡ true) ⊎ (fits text old n ≡ false)
          → length (each (passing (tab n (fits text old))) text) ≤ length old
          → length (each (passing (tab (suc n) (fits text old))) text) ≤ length old
      go (yes e) (inl t) i =
          let k : passing (tab (suc n) (fits text old)) ≡ suc n = ap (λ m. passing (tab m (fits text old))) (sym (add-one n))
          ∙ row_next (fits text old) n e t ∙ add-one n in
          rw k (leb-true (length (each (suc n) text)) (length old) t)
      go (yes e) (inr t) i =
          let k : passing (tab (suc n) (fits text old)) ≡ n = row_found (fits text old) n (suc n) e t (omega arith) in
          rw k (rw e at i)
      go (no e) t i =
          let l = row_most (fits text old) n in
          let k : passing (tab (suc n) (fits text old)) ≡ passing (tab n (fits text old)) =
          passing_stop (tab n (fits text old)) (fits text old n ∷ []) (rw (length_tab n (fits text old)) (omega arith)) in
          rw k i

  pub texted_within : (n : ℕ) → (texted n text old).bytes ≤ length old
  unfolding texted fitting
  texted_within n = within n
