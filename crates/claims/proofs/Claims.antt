-- Every claim holds of every accepted text, since an accepted text gives a fit table: `claims`, at the end.
use mathlib.Core.List.{List}
use Prim.Native.Nat.{ℕ}
use Rattle.job.proofs.Accuracy.{accuracy}
use Rattle.job.proofs.InRange.{in_range}
use Rattle.job.proofs.Worded.{worded}
use Rattle.parse.proofs.AcceptedFit.{accepted_fit}
use Rattle.pieces.proofs.Joined.{all_clauses}
use Rattle.reply.proofs.Accepted.{accepted_exactly}
use Rattle.reply.proofs.PlainReply.{plain_replies}
use Rattle.form.specs.OneForm.{IsJob, job_of}
use Rattle.form.proofs.AcceptedLaws.{is_job}
use Rattle.form.proofs.OneForm.{one_form, equal_exactly}
use Rattle.claims.specs.Claims.{Claims}
use Rattle.claims.proofs.Calls.{accurate_calls}
use Rattle.claims.proofs.Replies.{accurate_replies}
use Rattle.claims.proofs.Printed.{printed_whole}
use Rattle.claims.proofs.Filed.{filed_whole}

pub claims : (text : List ℕ) → IsJob text → Claims text
claims text is =
    let J = job_of text in
    let fits = accepted_fit text J (is_job text is) in
    record {
      all_clauses = all_clauses J fits;
      in_range = in_range J fits;
      printed = printed_whole text is;
      accepted_exactly = λ reply work buffer. accepted_exactly J reply work buffer;
      plain_replies = plain_replies J fits;
      accurate = accuracy J fits;
      accurate_calls = accurate_calls J fits;
      accurate_replies = accurate_replies J fits;
      one_form = one_form text is;
      equal_exactly = λ other also. equal_exactly text other is also;
      filed_whole = filed_whole text is;
      worded = worded J fits;
    }
