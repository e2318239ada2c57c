-- What the first program prints of a job text (document 01, 'A job in full'): 'comments after `c `, header (variables, clauses), clauses'.
use Rattle.std.specs.Prelude.{◌≡◌, cond, List, [], ◌++◌, ℕ, ◌+◌, ◌*◌, ◌/◌, min, eqb, length, Option, Some, None, Result, Ok, Err}
use Rattle.lists.specs.Writing.{write}
use Rattle.job.specs.declared.Job.{Job}
use Rattle.job.specs.declared.refusal.Refusal.{Refusal}
use Rattle.job.specs.Answers.{Answer, gives, refuses}
use Rattle.job.specs.Limits.{max_text}
use Rattle.job.specs.Literals.{Clause}
use Rattle.job.specs.Numbering.{total}
use Rattle.job.specs.Clauses.{clauses}
use Rattle.parse.specs.Reading.{read_job}
use Rattle.cnf.specs.Piece.{flat, piece, refusal}
use Rattle.text.specs.Comments.{comments}
use Rattle.text.specs.Dimacs.{number_room, numbers_text}
use Rattle.text.specs.Lines.{line_room, header}
use Rattle.outputs.specs.declared.dimacs.Piece.{Piece}
use Rattle.outputs.specs.declared.dimacs.Following.{Following}
use Rattle.outputs.specs.declared.dimacs.Begun.{Begun}
use Rattle.outputs.specs.Printing.{or_refusal, Shows}

-- a line for each clause: its numbers, and the 0 that closes it
abbrev pub clause_text : List Clause → List ℕ
clause_text cs = numbers_text (flat cs)

-- what comes before the clauses
abbrev pub before : List ℕ → Job → List ℕ
before text J = comments text ++ header (total J.program) (length (clauses J))

unfoldable pub dimacs : List ℕ → List ℕ
dimacs text =
    let J = (read_job text).table in
    or_refusal (read_job text).answer λ _. before text J ++ clause_text (clauses J)

-- ---- the same in parts, since the whole may have fifty million bytes

-- what follows is told by the job: its table, and how many clauses it has; nothing behind a refusal
abbrev pub Follows : Answer (Unit {0}) → Job → Option Following → Type 0
Follows (gives _) J (Some f) = (f.fit.job ≡ J) × (f.clauses ≡ length (clauses J))
Follows (gives _) J None = ⊥
Follows (refuses number place) J (Some f) = ⊥
Follows (refuses number place) J None = Unit {0}

abbrev pub IsFollowing : List ℕ → Option Following → Type 0
IsFollowing text following = Follows (read_job text).answer (read_job text).table following

-- what is printed first: comments and header, or a refusal
unfoldable pub opened : List ℕ → List ℕ
opened text = or_refusal (read_job text).answer λ _. before text (read_job text).table

-- its room: comments are at most twice as long as the text
abbrev pub opening_room : ℕ
opening_room = 2 * max_text + line_room

-- the clauses that follow; none behind a refusal
abbrev pub behind : Answer (Unit {0}) → List Clause → List Clause
behind (gives _) cs = cs
behind (refuses number place) cs = []

unfoldable pub following : List ℕ → List Clause
following text = behind (read_job text).answer (clauses (read_job text).table)

-- the opening that is made of a text, with what follows it; or a refusal
abbrev pub Opens : List ℕ → Result Begun Refusal → List ℕ → List ℕ → Type 0
Opens text (Ok begun) old new = Shows (opened text) (Ok begun.length) old new × IsFollowing text (Some begun.following)
Opens text (Err r) old new = Shows (opened text) (Err r) old new × IsFollowing text None

-- the most numbers of a piece
abbrev pub piece_numbers : ℕ
piece_numbers = max_text

-- the numbers that two buffers hold, one of numbers and one of their text
abbrev pub piece_room : ℕ → ℕ → ℕ
piece_room numbers bytes = min numbers (bytes / number_room)

-- the clauses that the clause call gives from clause c on; none where it refuses
unfoldable pub next_piece : Job → ℕ → ℕ → List Clause
next_piece J c room = cond (eqb (refusal J c room) 0) (piece J c room) []

-- their text in a buffer, and how much it is
pub record PieceText (cs : List Clause) (old : List ℕ) (p : Piece) (new : List ℕ) : Type 0 where
  pub clauses : p.clauses ≡ length cs
  pub bytes : p.length ≡ length (clause_text cs)
  pub holds : new ≡ write old 0 (clause_text cs)
