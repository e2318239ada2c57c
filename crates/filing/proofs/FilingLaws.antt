-- Laws of an accepted text's table: it has the sizes of one, and the form is no longer than the text.
use mathlib.Core.Path.{◌≡◌, sym, ap, subst}
use mathlib.Core.List.{List, [], ◌∷◌}
use native.Mathlib.Omega.{arith}
use Prim.Native.Nat.{ℕ, ◌≤◌}
use Rattle.std.specs.Prelude.{Ok}
use Rattle.std.specs.Result.{is_ok}
use lib.ListN.{length}
use Rattle.job.specs.Fitness.{fit}
use Rattle.job.specs.InRange.{Below}
use Rattle.job.specs.Literals.{Clause}
use Rattle.job.specs.Table.{w, lemma}
use Rattle.job.specs.declared.Job.{Job}
use Rattle.job.proofs.FitnessLaws.{fit_lemmas, fit_sizes, fit_good, lemma_is}
use Rattle.lists.proofs.TestLaws.{passed}
use Rattle.parse.specs.Answers.{table_of}
use Rattle.parse.specs.Reading.{reading}
use Rattle.parse.proofs.ReadingLaws.{Promised, is_reading}
use Rattle.parse.proofs.AcceptedFit.{accepted_fit, accepted_items}
use Rattle.form.specs.Form.{form}
use Rattle.form.proofs.OneForm.{one_form}
use Rattle.filing.specs.Rows.{Sized}

-- what is below a number is below a larger one
wider : (a b : ℕ) → a ≤ b → (c : Clause) → Below a c → Below b c
wider a b h [] i = tt
wider a b h (l ∷ ls) i = (omega (arith, i.0), wider a b h ls i.1)

-- j is the table that the reader gives
module _ (text : List ℕ) (j : Job) (given : Promised text (Ok j)) where
  read : reading text ≡ Ok j
  read = sym (is_reading text (Ok j) given)

  pub job_sized : Sized j
  unfolding fit
  job_sized =
      let fits = accepted_fit text j read in
      let few = fit_lemmas j fits in
      let sizes = fit_sizes j fits in
      let (_, (_, (lemmas, _))) = passed _ fits in
      record {
        lemmas = few;
        names = λ k l. (lemma_is j.lengths j.items j.lemmas (w j.program) few lemmas k l).1;
        small = λ k l. wider (w j.program) 256 (omega (arith, sizes.steps, sizes.variables)) (lemma j k) ((fit_good j fits).lemmas k l);
        items = accepted_items text j read;
      }

  pub never_grows : length (form text j) ≤ length text
  never_grows = subst (λ k. length (form text k) ≤ length text) (ap table_of read) (one_form text (ap is_ok read)).no_longer
