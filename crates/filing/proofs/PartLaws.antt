-- Laws of a loop that writes a text part by part: what is left, written behind the parts before, gives the whole.
use Rattle.std.proofs.Common.{◌≡◌, refl, sym, ap, ◌∙◌, List, [], ◌++◌, ℕ, ◌+◌, arith, length, length-append}
use Rattle.lists.specs.Writing.{write}
use Rattle.lists.proofs.WritingLaws.{length_write, write_none, write_more}
use Rattle.put.specs.declared.Page.{Page}
use Rattle.put.specs.Put.{Puts}
use Rattle.filing.specs.Lines.{HasRoomFor, PutsAll}

-- the whole is to stand behind what the first page holds; so far a page holds all but what is left
pub record Going (first : Page) (whole : List ℕ) (page : Page) (left : List ℕ) : Type 0 where
  pub same_reference : page.out.ghost_name ≡ first.out.ghost_name
  pub place : page.end + length left ≡ first.end + length whole
  pub holds : write page.out.now page.end left ≡ write first.out.now first.end whole
  pub same : length page.out.now ≡ length first.out.now

module _ {first : Page} {whole : List ℕ} where
  pub going_begins : Going first whole first whole
  going_begins = record { same_reference = refl; place = refl; holds = refl; same = refl }

  pub going_ends : {page : Page} {left : List ℕ} → Going first whole page left → left ≡ [] → PutsAll first page whole
  going_ends {page} {left} g e = record {
    same_reference = g.same_reference;
    short = omega arith;
    end = omega (arith, g.place, ap length e);
    out = write_none page.out.now page.end ∙ ap (write page.out.now page.end) (sym e) ∙ g.holds;
  }

  -- the last part is all that is left
  pub going_last : {most : ℕ} {page last : Page} {left : List ℕ} → Going first whole page left → Puts most page last left
      → PutsAll first last whole
  going_last g p = record {
    same_reference = p.same_reference ∙ g.same_reference;
    short = omega arith;
    end = p.end ∙ g.place;
    out = p.out ∙ g.holds;
  }

  module _ {page : Page} {left : List ℕ} (part rest : List ℕ) (g : Going first whole page left) (e : left ≡ part ++ rest)
      (room : HasRoomFor first whole) where
    pub going_room : HasRoomFor page part
    going_room = omega (arith, g.place, g.same, ap length e ∙ length-append part rest)

    pub going_next : {most : ℕ} {next : Page} → Puts most page next part → Going first whole next rest
    going_next p =
        let l = ap length e ∙ length-append part rest in
        record {
          same_reference = p.same_reference ∙ g.same_reference;
          place = omega (arith, g.place, p.end);
          holds =
              rw (p.out, p.end) (write_more page.out.now page.end part rest (omega (arith, g.place, g.same)))
              ∙ ap (write page.out.now page.end) (sym e) ∙ g.holds;
          same = ap length p.out ∙ length_write page.out.now page.end part going_room ∙ g.same;
        }
