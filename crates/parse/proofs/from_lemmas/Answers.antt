-- The checks at `lemmas` and the lemma lines begin within the limits.
use mathlib.Core.Path.{sym, ◌∙◌}
use Rattle.parse.proofs.ReadingLaws.{limits, counts_kept}
use Rattle.parse.proofs.from_lemmas.Goals as goal

pub at_lemmas-requires : goal.at_lemmas-requires
at_lemmas-requires c = (limits c.args.text.now c.args.part.now c.requires).2.1

pub lemma_lines-requires-clause-size : goal.lemma_lines-requires-clause-size
lemma_lines-requires-clause-size c = (limits c.args.text.now c.args.part.now c.requires).0

pub lemma_lines-requires-clause-behind : goal.lemma_lines-requires-clause-behind
lemma_lines-requires-clause-behind c = (limits c.args.text.now c.args.part.now c.requires).1

pub lemma_lines-requires-clause-steps : goal.lemma_lines-requires-clause-steps
lemma_lines-requires-clause-steps c =
    let part = c.args.part.now in
    let l = limits c.args.text.now part c.requires in
    (counts_kept part.draft part.line c.in_ok-job.job l.2 (sym c.at_lemmas.ensures ∙ c.in_ok-job.was)).0

pub lemma_lines-requires-clause-variables : goal.lemma_lines-requires-clause-variables
lemma_lines-requires-clause-variables c =
    let part = c.args.part.now in
    let l = limits c.args.text.now part c.requires in
    (counts_kept part.draft part.line c.in_ok-job.job l.2 (sym c.at_lemmas.ensures ∙ c.in_ok-job.was)).1
