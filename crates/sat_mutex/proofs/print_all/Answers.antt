-- The clauses that follow are all of the job's.
use Rattle.outputs.proofs.ReadLaws.{following_counted}
use Rattle.sat_mutex.proofs.print_all.Goals as goal

pub print_clauses-requires : goal.print_clauses-requires
print_clauses-requires g c =
    let f = c.in-Some.following in
    following_counted c.args.text.now f (rw c.in-Some.is at c.opening-opened.ensures.following)
