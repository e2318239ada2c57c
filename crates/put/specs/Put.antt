-- A part put into a lent buffer: where there is room for it, otherwise not at all.
use Rattle.std.specs.Prelude.{◌≡◌, cond, List, ℕ, ◌+◌, ◌≤◌, leb, length}
use Rattle.lists.specs.Writing.{write}
use Rattle.put.specs.declared.Page.{Page}

module _ (old : List ℕ) (at : ℕ) (part : List ℕ) where
  -- the place behind the part, or the same place
  unfoldable pub placed : ℕ
  placed = cond (leb (at + length part) (length old)) (at + length part) at

  -- the buffer with the part, or as it was
  unfoldable pub put : List ℕ
  put = cond (leb (at + length part) (length old)) (write old at part) old

-- so many bytes more go onto the page
abbrev pub HasRoom : Page → ℕ → Type 0
HasRoom page n = page.end + n ≤ length page.out.now

-- a part is put behind what stands in the buffer
pub record Adds (old new : Page) (part : List ℕ) : Type 0 where
  pub same_reference : new.out.ghost_name ≡ old.out.ghost_name
  pub end : new.end ≡ placed old.out.now old.end part
  pub out : new.out.now ≡ put old.out.now old.end part

-- a part that has room: it has at most so many bytes
pub record Puts (most : ℕ) (old new : Page) (part : List ℕ) : Type 0 where
  pub same_reference : new.out.ghost_name ≡ old.out.ghost_name
  pub short : length part ≤ most
  pub end : new.end ≡ old.end + length part
  pub out : new.out.now ≡ write old.out.now old.end part
