-- Two readings of one reply: what store A hears whole, store B hears whole and the same, where B takes each number that A took.
use mathlib.Core.Path.{◌≡◌, refl}
use mathlib.Core.Bool.{Bool, true, false, cond}
use mathlib.Core.Logic.{◌⊎◌, inl, inr}
use mathlib.Core.List.{List, [], ◌∷◌}
use Prim.Native.Nat.{ℕ, suc, ◌<◌}
use Rattle.std.specs.Prelude.{Option, None, Some}
use native.Mathlib.Omega.{arith}
use native.Mathlib.Decide.{dec_lt}
use borrow.Author.Tests.{lt-ltb, le-ltb}
use lib.ListN.{drop}
use Rattle.lists.specs.Pieces.{Pieces, last, piece, cut, starts}
use Rattle.lists.proofs.Logic.{split}
use Rattle.job.specs.declared.Literal.{Literal}
use Rattle.job.specs.Literals.{place}
use Rattle.tokens.specs.declared.Token.{Token}
use Rattle.tokens.specs.declared.Token.TheVariants.{Bad, Zero, Number}
use Rattle.tokens.specs.Numbers.{token}
use Rattle.reply.specs.Said.{Store}
use Rattle.reply.specs.Lines.{Opened, stopped, begun, Part, fault, more, closed, Told, halted, told, goes, after, unended, comment}
use Rattle.reply.specs.Lines.{opening, say_in, numbers_in, value_line_in, value_lines_in, closing}
use Rattle.reply.specs.Reply.{Heard, turned, whole, ended, spoken, started, heard_in}

-- Good is kept from what is heard in the end back to the start; where it holds, B takes what A took
module _ {S : Type 0} (A B : Store S) (N M : ℕ) (Good : S → Type 0)
    (takes : (m : S) (l : Literal) → place l < N → A.has m (place l) ≡ false → Good (A.put m l)
    → Good m × (place l < M) × (B.has m (place l) ≡ false) × (B.put m l ≡ A.put m l)) where
  abbrev KeptPart : S → Part S → Part S → Type 0
  KeptPart m (fault c m') q = Unit {0}
  KeptPart m (more m') q = Good m' → Good m × (q ≡ more m')
  KeptPart m (closed m') q = Good m' → Good m × (q ≡ closed m')

  abbrev KeptTold : S → Told S → Told S → Type 0
  KeptTold m (halted c k m') q = Unit {0}
  KeptTold m (told k ps m') q = Good m' → Good m × (q ≡ told k ps m')

  abbrev KeptHeard : S → Heard S → Heard S → Type 0
  KeptHeard m (turned c k m') q = Unit {0}
  KeptHeard m (whole m') q = Good m' → Good m × (q ≡ whole m')

  say_kept : (m : S) (t : Token) → KeptPart m (say_in A N m t) (say_in B M m t)
  unfolding say_in
  say_kept m Bad = tt
  say_kept m Zero = λ g. (g, refl)
  say_kept m (Number said ends) = go (dec_lt x N) (split (A.has m x)) ends
    where
      x : ℕ
      x = place said

      go : Dec (x < N) → (A.has m x ≡ true) ⊎ (A.has m x ≡ false) → (w : Bool)
          → KeptPart m (say_in A N m (Number said w)) (say_in B M m (Number said w))
      go (no l) h w = rw (le-ltb x N (omega (arith, l))) tt
      go (yes l) (inl h) w = rw (lt-ltb x N l, h) tt
      go (yes l) (inr h) false = rw (lt-ltb x N l, h) tt
      go (yes l) (inr h) true = rw (lt-ltb x N l, h) λ g. let (g', i, new, same) = takes m said l h g in (g', rw (lt-ltb x M i, new, same))

  numbers_kept : (ps : Pieces) (m : S) → KeptPart m (numbers_in A N m ps) (numbers_in B M m ps)
  unfolding numbers_in
  numbers_kept (last w) m = say_kept m (token w)
  numbers_kept (piece w ws) m = go (say_in A N m (token w)) (say_in B M m (token w)) (say_kept m (token w)) (numbers_kept ws)
    where
      next : (m' : S) (q p' : Part S) → (Good m' → Good m × (q ≡ more m')) → KeptPart m' p' (numbers_in B M m' ws)
          → KeptPart m p' (goes q (λ m''. numbers_in B M m'' ws))
      next m' q (fault c m'') k f = tt
      next m' q (more m'') k f = λ g. let (g', e) = f g in let (g₀, e₀) = k g' in (g₀, rw e₀ e)
      next m' q (closed m'') k f = λ g. let (g', e) = f g in let (g₀, e₀) = k g' in (g₀, rw e₀ e)

      go : (p q : Part S) → KeptPart m p q → ((m' : S) → KeptPart m' (numbers_in A N m' ws) (numbers_in B M m' ws))
          → KeptPart m (goes p (λ m'. numbers_in A N m' ws)) (goes q (λ m'. numbers_in B M m' ws))
      go (fault c m') q k f = tt
      go (more m') q k f = next m' q (numbers_in A N m' ws) k (f m')
      go (closed m') q k f = tt

  line_kept : (m : S) (p : List ℕ) → KeptPart m (value_line_in A N m p) (value_line_in B M m p)
  unfolding value_line_in
  line_kept m p = go (starts (118 ∷ 32 ∷ []) p)
    where
      words : Pieces
      words = cut 32 (drop 2 p)

      go : (b : Bool) → KeptPart m (cond b (numbers_in A N m words) (fault 61 m)) (cond b (numbers_in B M m words) (fault 61 m))
      go true = numbers_kept words m
      go false = tt

  lines_kept : (ps : Pieces) (k : ℕ) (m : S) → KeptTold m (value_lines_in A N k m ps) (value_lines_in B M k m ps)
  unfolding value_lines_in
  lines_kept (last p) k m = go (value_line_in A N m p)
    where
      go : (t : Part S) → KeptTold m (unended k t) (unended k (value_line_in B M m p))
      go (fault c m') = tt
      go (more m') = tt
      go (closed m') = tt
  lines_kept (piece p ps) k m = go (comment p) (value_line_in A N m p) (value_line_in B M m p) (line_kept m p)
      (λ m'. lines_kept ps (suc k) m')
    where
      on_a : S → Told S
      on_a m' = value_lines_in A N (suc k) m' ps

      on_b : S → Told S
      on_b m' = value_lines_in B M (suc k) m' ps

      next : (m' : S) (q : Part S) (t : Told S) → (Good m' → Good m × (q ≡ more m')) → KeptTold m' t (on_b m')
          → KeptTold m t (after k q ps on_b)
      next m' q (halted c j m'') h f = tt
      next m' q (told j qs m'') h f = λ g. let (g', e) = f g in let (g₀, e₀) = h g' in (g₀, rw e₀ e)

      go : (b : Bool) (p q : Part S) → KeptPart m p q → ((m' : S) → KeptTold m' (on_a m') (on_b m'))
          → KeptTold m (cond b (on_a m) (after k p ps on_a)) (cond b (on_b m) (after k q ps on_b))
      go true p q h f = f m
      go false (fault c m') q h f = tt
      go false (more m') q h f = next m' q (on_a m') h (f m')
      go false (closed m') q h f = λ g. let (g₀, e₀) = h g in (g₀, rw e₀)

  reply_kept : (m : S) (s : List ℕ) → KeptHeard m (heard_in A N m s) (heard_in B M m s)
  unfolding heard_in
  reply_kept m s = go (opening 1 (cut 10 s))
    where
      end : (m' : S) (t : Told S) (j : Option ℕ) (k : ℕ) (ps : Pieces) → (Good m' → Good m × (t ≡ told k ps m')) → closing k ps ≡ j
          → KeptHeard m (ended m' j) (spoken t)
      end m' t None k ps h e = λ g. let (g₀, e₀) = h g in (g₀, rw (e₀, e))
      end m' t (Some j) k ps h e = tt

      speak : (p q : Told S) → KeptTold m p q → KeptHeard m (spoken p) (spoken q)
      speak (halted c k m') q h = tt
      speak (told k ps m') q h = end m' q (closing k ps) k ps h refl

      on_a : ℕ → Pieces → Heard S
      on_a k ps = spoken (value_lines_in A N k m ps)

      on_b : ℕ → Pieces → Heard S
      on_b k ps = spoken (value_lines_in B M k m ps)

      go : (o : Opened) → KeptHeard m (started m o on_a) (started m o on_b)
      go (stopped c k) = tt
      go (begun k ps) = speak (value_lines_in A N k m ps) (value_lines_in B M k m ps) (lines_kept ps k m)

  pub heard_kept : (m m' : S) (s : List ℕ) → heard_in A N m s ≡ whole m' → Good m' → Good m × (heard_in B M m s ≡ whole m')
  heard_kept m m' s e = rw e at (reply_kept m s)
