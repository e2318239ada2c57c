-- Everything that we promise of an accepted text, on one page, with the words of document 00, and of 02 for its requests, beside each line.
-- It is proved of every accepted text in proofs/Claims. What a call does on any other input is said by its own contract.
use Rattle.std.specs.Prelude.{List, ℕ}
use Rattle.job.specs.InRange.{InRange}
use Rattle.job.specs.Accuracy.{Accurate}
use Rattle.job.specs.Worded.{Worded}
use Rattle.pieces.specs.AllClauses.{AllClauses}
use Rattle.reply.specs.Acceptance.{AcceptedExactly}
use Rattle.reply.specs.PlainReply.{PlainReplies}
use Rattle.form.specs.OneForm.{IsJob, job_of, OneForm, EqualExactly}
use Rattle.claims.specs.Calls.{AccurateCalls}
use Rattle.claims.specs.Replies.{AccurateReplies}
use Rattle.claims.specs.Printed.{PrintedWhole}
use Rattle.claims.specs.Filed.{FiledWhole}

pub record Claims (text : List ℕ) : Type 0 where
  -- ---- demand 2

  -- 'The clauses are those of document 01 .. in its order and numbering, no more and no fewer': as the clause call gives them
  pub all_clauses : AllClauses (job_of text)
  -- 'header (variables, clauses)': every literal is a number from 1 to the header's N
  pub in_range : InRange (job_of text)
  -- 'comments after `c `, header (variables, clauses), clauses': the parts that the first program prints are the whole, one after the other
  pub printed : PrintedWhole text
  -- 'A solver's reply in 01's form and size is accepted exactly when it gives each variable one value and every clause is true.'
  pub accepted_exactly : (reply work buffer : List ℕ) → AcceptedExactly (job_of text) reply work buffer
  -- for all values there is such a reply
  pub plain_replies : PlainReplies (job_of text)
  -- ---- demand 3

  -- 'its clauses can be satisfied exactly when there is a run of r+1 states, all different ..', with a word 'runs so restricted' (02, S-2):
  -- of the definitions
  pub accurate : Accurate (job_of text)
  -- of reading off and run to values, byte by byte
  pub accurate_calls : AccurateCalls (job_of text)
  -- of these and the check of a reply
  pub accurate_replies : AccurateReplies (job_of text)
  -- ---- document 02, S-1

  -- 'Filing twice changes nothing; runs are the same; the text never grows.'
  pub one_form : OneForm text
  -- 'Two accepted jobs get equal texts exactly when bound, step lines and the remaining lemmas, as sets of sets, agree'; S-2: with the word
  pub equal_exactly : (other : List ℕ) → IsJob other → EqualExactly text other
  -- 'Write a job in its filing form': into every buffer that is no shorter than the job
  pub filed_whole : FiledWhole text
  -- ---- document 02, S-2

  -- what the word adds to the clauses and asks of a run, beside the same job without it: 'Clause totals grow by n+2 or n+4'
  pub worded : Worded (job_of text)
