-- Laws of the form's text: its parts as the code writes them, the lines kept, `lemmas`, and the lemma lines.
use Rattle.std.proofs.Common.{◌≡◌, refl, sym, List, [], ◌∷◌, ◌++◌, map, ℕ}
use Rattle.std.proofs.lemmas.List.{append-nil, append_assoc}
use Rattle.scan.specs.Lines.{lines}
use Rattle.put.specs.declared.Page.{Page}
use Rattle.put.specs.Put.{Adds}
use Rattle.put.proofs.PutLaws.{put_fits}
use Rattle.job.specs.declared.Job.{Job}
use Rattle.form.specs.Lemmas.{filed}
use Rattle.form.specs.Form.{kept, lemmas_word, lemma_text, lemmas_of, ended, form}
use Rattle.filing.specs.Lines.{HasRoomFor, PutsAll, lemma_lines}
use Rattle.filing.proofs.PartLaws.{Going, going_begins, going_room, going_next}

ended_append : (a b : List (List ℕ)) → ended (a ++ b) ≡ ended a ++ ended b
unfolding ended
ended_append [] b = refl
ended_append (l ∷ ls) b = rw (ended_append ls b) (sym (append_assoc l (10 ∷ ended ls) (ended b)))

abbrev pub lemmas_line : List ℕ
lemmas_line = lemmas_word ++ (10 ∷ [])

module _ (text : List ℕ) (J : Job) where
  abbrev pub kept_lines : List ℕ
  kept_lines = ended (kept (lines text))

  abbrev pub filed_lines : List ℕ
  filed_lines = lemma_lines J (filed (lemmas_of J))

  abbrev rest : List ℕ
  rest = lemmas_line ++ filed_lines

  parts : form text J ≡ kept_lines ++ rest
  unfolding form ended
  parts = ended_append (kept (lines text)) (lemmas_word ∷ map (lemma_text J) (filed (lemmas_of J)))

  -- ---- the parts written one behind the other, each in the room that is left

  module _ (first : Page) (room : HasRoomFor first (form text J)) where
    abbrev pub Writing : Page → List ℕ → Type 0
    Writing page left = Going first (form text J) page left

    pub kept_room : HasRoomFor first kept_lines
    kept_room = going_room {first = first} {whole = form text J} kept_lines rest going_begins parts room

    module _ {kept_page : Page} (p : PutsAll first kept_page kept_lines) where
      kept_written : Writing kept_page rest
      kept_written = going_next kept_lines rest going_begins parts room p

      module _ {page : Page} (a : Adds kept_page page lemmas_line) where
        pub word_written : Writing page filed_lines
        word_written =
            let fits = going_room lemmas_line filed_lines kept_written refl room in
            going_next lemmas_line filed_lines kept_written refl room (put_fits a fits)

        pub lines_room : HasRoomFor page filed_lines
        lines_room = going_room filed_lines [] word_written (sym (append-nil filed_lines)) room
