-- The marks in the working buffer say what the literals of the definition say.
use mathlib.Core.Path.{◌≡◌, refl, ap, ◌∙◌}
use mathlib.Core.Bool.{Bool, true, false, not, cond}
use mathlib.Core.List.{List, [], ◌∷◌, ◌++◌}
use Prim.Native.Nat.{ℕ, suc, ◌<◌}
use Rattle.std.specs.Prelude.{Option, None, Some}
use native.Mathlib.Omega.{arith}
use native.Mathlib.Decide.{dec_lt}
use borrow.Author.Tests.{lt-ltb, le-ltb}
use lib.Dec.{eqb}
use lib.ListN.{set, drop, get_or-append}
use lib.Seq.{set-append_left}
use Rattle.lists.specs.Rows.{tab, num}
use Rattle.lists.specs.Pieces.{Pieces, last, piece, cut, starts}
use Rattle.lists.proofs.RowLaws.{length_tab, get_d_tab, set_tab}
use Rattle.job.specs.declared.Literal.{Literal}
use Rattle.job.specs.declared.Literal.TheVariants.{On, Off}
use Rattle.job.specs.Literals.{place}
use Rattle.tokens.specs.declared.Token.{Token}
use Rattle.tokens.specs.declared.Token.TheVariants.{Bad, Zero, Number}
use Rattle.tokens.specs.Numbers.{token}
use Rattle.reply.specs.Said.{Store, says, literals, mark, marks}
use Rattle.reply.specs.Lines.{Opened, stopped, begun, Part, fault, more, closed, Told, halted, told, goes, after, unended, comment}
use Rattle.reply.specs.Lines.{opening, say_in, numbers_in, value_line_in, value_lines_in, closing}
use Rattle.reply.specs.Reply.{Heard, turned, whole, ended, spoken, started, heard_in}

-- ---- one store as the picture of another

module _ {S T : Type 0} (h : S → T) where
  abbrev pub map_part : Part S → Part T
  map_part (fault c m) = fault c (h m)
  map_part (more m) = more (h m)
  map_part (closed m) = closed (h m)

  abbrev pub map_told : Told S → Told T
  map_told (halted c k m) = halted c k (h m)
  map_told (told k ps m) = told k ps (h m)

  abbrev pub map_heard : Heard S → Heard T
  map_heard (turned c k m) = turned c k (h m)
  map_heard (whole m) = whole (h m)

-- a store B that has and takes below N what A does hears what A hears
module _ {S T : Type 0} (A : Store S) (B : Store T) (h : S → T) (N : ℕ)
    (has : (m : S) (x : ℕ) → x < N → B.has (h m) x ≡ A.has m x)
    (put : (m : S) (l : Literal) → place l < N → B.put (h m) l ≡ h (A.put m l)) where
  say_same : (m : S) (t : Token) → say_in B N (h m) t ≡ map_part h (say_in A N m t)
  unfolding say_in
  say_same m Bad = refl
  say_same m Zero = refl
  say_same m (Number said ends) = go (dec_lt x N)
    where
      x : ℕ
      x = place said

      new : (b w : Bool) → x < N
          → cond b (fault 63 (h m)) (cond w (more (B.put (h m) said)) (fault 61 (h m)))
          ≡ map_part h (cond b (fault 63 m) (cond w (more (A.put m said)) (fault 61 m)))
      new true w l = refl
      new false true l = ap more (put m said l)
      new false false l = refl

      go : Dec (x < N) → say_in B N (h m) (Number said ends) ≡ map_part h (say_in A N m (Number said ends))
      go (yes l) = rw (lt-ltb x N l, has m x l) (new (A.has m x) ends l)
      go (no l) = rw (le-ltb x N (omega (arith, l)))

  numbers_same : (ps : Pieces) (m : S) → numbers_in B N (h m) ps ≡ map_part h (numbers_in A N m ps)
  unfolding numbers_in
  numbers_same (last w) m = say_same m (token w)
  numbers_same (piece w ws) m = rw (say_same m (token w)) (go (say_in A N m (token w)) (λ m'. numbers_same ws m'))
    where
      go : (t : Part S) → ((m' : S) → numbers_in B N (h m') ws ≡ map_part h (numbers_in A N m' ws))
          → goes (map_part h t) (λ m'. numbers_in B N m' ws) ≡ map_part h (goes t (λ m'. numbers_in A N m' ws))
      go (fault c m') f = refl
      go (more m') f = f m'
      go (closed m') f = refl

  line_same : (m : S) (p : List ℕ) → value_line_in B N (h m) p ≡ map_part h (value_line_in A N m p)
  unfolding value_line_in
  line_same m p = rw (numbers_same (cut 32 (drop 2 p)) m) (go (starts (118 ∷ 32 ∷ []) p))
    where
      line : Part S
      line = numbers_in A N m (cut 32 (drop 2 p))

      go : (b : Bool) → cond b (map_part h line) (fault 61 (h m)) ≡ map_part h (cond b line (fault 61 m))
      go true = refl
      go false = refl

  lines_same : (ps : Pieces) (k : ℕ) (m : S) → value_lines_in B N k (h m) ps ≡ map_told h (value_lines_in A N k m ps)
  unfolding value_lines_in
  lines_same (last p) k m = rw (line_same m p) (go (value_line_in A N m p))
    where
      go : (t : Part S) → unended k (map_part h t) ≡ map_told h (unended k t)
      go (fault c m') = refl
      go (more m') = refl
      go (closed m') = refl
  lines_same (piece p ps) k m = rw (line_same m p) (go (comment p) (value_line_in A N m p) (λ m'. lines_same ps (suc k) m'))
    where
      on_a : S → Told S
      on_a m' = value_lines_in A N (suc k) m' ps

      on_b : T → Told T
      on_b m' = value_lines_in B N (suc k) m' ps

      go : (b : Bool) (t : Part S) → ((m' : S) → on_b (h m') ≡ map_told h (on_a m'))
          → cond b (on_b (h m)) (after k (map_part h t) ps on_b) ≡ map_told h (cond b (on_a m) (after k t ps on_a))
      go true t f = f m
      go false (fault c m') f = refl
      go false (more m') f = f m'
      go false (closed m') f = refl

  heard_same : (m : S) (s : List ℕ) → heard_in B N (h m) s ≡ map_heard h (heard_in A N m s)
  unfolding heard_in
  heard_same m s = go (opening 1 (cut 10 s))
    where
      end : (m : S) (k : Option ℕ) → ended (h m) k ≡ map_heard h (ended m k)
      end m None = refl
      end m (Some k) = refl

      speak : (t : Told S) → spoken (map_told h t) ≡ map_heard h (spoken t)
      speak (halted c k m) = refl
      speak (told k ps m) = end m (closing k ps)

      go : (o : Opened) → started (h m) o (λ k ps. spoken (value_lines_in B N k (h m) ps))
          ≡ map_heard h (started m o (λ k ps. spoken (value_lines_in A N k m ps)))
      go (stopped c k) = refl
      go (begun k ps) = rw (lines_same ps k m) (speak (value_lines_in A N k m ps))

-- ---- the buffer as the picture of the literals

module _ (N : ℕ) (rest : List ℕ) where
  unfoldable pub marked : List Literal → List ℕ
  marked ls = tab N (says ls) ++ rest

  pub marked_at : (ls : List Literal) (x : ℕ) → x < N → num (marked ls) x ≡ says ls x
  unfolding marked
  marked_at ls x l =
      get_or-append (tab N (says ls)) rest 0 x (rw (length_tab N (says ls)) l) ∙ get_d_tab N (says ls) x 0 l

  marked_put : (ls : List Literal) (said : Literal) → place said < N → set (marked ls) (place said) (mark said) ≡ marked (said ∷ ls)
  unfolding marked says
  marked_put ls (On x) l =
      set-append_left (tab N (says ls)) rest x 1 (rw (length_tab N (says ls)) l)
      ∙ ap (λ (a : List ℕ). a ++ rest) (set_tab N (says ls) x 1 l)
  marked_put ls (Off x) l =
      set-append_left (tab N (says ls)) rest x 2 (rw (length_tab N (says ls)) l)
      ∙ ap (λ (a : List ℕ). a ++ rest) (set_tab N (says ls) x 2 l)

  pub heard_marked : (ls : List Literal) (s : List ℕ) → heard_in marks N (marked ls) s ≡ map_heard marked (heard_in literals N ls s)
  heard_marked = heard_same literals marks marked N (λ ls x l. ap (λ (b : ℕ). not (eqb b 0)) (marked_at ls x l)) marked_put
