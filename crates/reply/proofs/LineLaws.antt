-- Laws of numbers and lines: one for each way out of the code that reads them.
use Rattle.std.proofs.Common.{◌≡◌, refl, sym, ap, ◌∙◌, Bool, true, false, not, cond}
use Rattle.std.proofs.Common.{Option, None, Some, Result, Ok, Err, ℕ, suc, ◌+◌, ◌≤◌, ◌<◌}
use Rattle.std.proofs.Common.{List, [], ◌∷◌, length, drop, set, arith}
use mathlib.Core.Bool.{false≢true}
use borrow.Author.Tests.{eq-eqb, ne_eqb, lt-ltb, le-ltb}
use Rattle.std.specs.Int.{from_bool}
use Rattle.std.specs.Result.{IsErr, IsErrAnd, MatchResult}
use Rattle.lists.specs.Rows.{num}
use Rattle.lists.specs.Pieces.{Pieces, last, piece, cut, starts, is}
use Rattle.lists.proofs.PieceLaws.{starts_length}
use Rattle.job.specs.declared.refusal.Fault.{Fault}
use Rattle.job.specs.declared.Literal.{Literal}
use Rattle.job.specs.Literals.{place}
use Rattle.job.specs.Faults.{number_of}
use Rattle.tokens.specs.declared.Token.{Token}
use Rattle.tokens.specs.declared.Token.TheVariants.{Number}
use Rattle.tokens.specs.declared.Kind.{Kind}
use Rattle.tokens.specs.declared.Kind.TheVariants.{Comment, Satisfiable, Unsatisfiable, Values, Other}
use Rattle.tokens.specs.Numbers.{token}
use Rattle.tokens.specs.Kinds.{satisfiable, unsatisfiable, kind_of}
use Rattle.tokens.proofs.KindLaws.{other_start, other_line}
use Rattle.reader.specs.Parts.{joined}
use Rattle.reply.specs.declared.Progress.{Progress}
use Rattle.reply.specs.declared.Progress.TheVariants.{More, Closed}
use Rattle.reply.specs.Said.{mark, marks}
use Rattle.reply.specs.Lines.{comment, Opened, stopped, begun, opening, Part, fault, more, goes, halted, told, after, unended, say_in}
use Rattle.reply.specs.Lines.{numbers_in, value_line_in, value_lines_in, closing}
use Rattle.reply.specs.Answers.{part_of}

-- what `?` passes on
pub passed_on : {T E : Type 0} (r : Result T E) (f : E) → IsErr r × IsErrAnd r (λ y. y ≡ f) → r ≡ Err f
passed_on (Ok x) f h = absurd h.1
passed_on (Err y) f h = ap Err h.1

pub is_false : (b : Bool) → not b ≡ true → b ≡ false
is_false true h = absurd (false≢true h)
is_false false h = refl

pub is_true : (b : Bool) → not b ≡ false → b ≡ true
is_true true h = refl
is_true false h = absurd (false≢true (sym h))

-- ---- one number

module _ (N : ℕ) (m : List ℕ) (l : Literal) (ends : Bool) where
  pub say_past : N ≤ place l → fault 62 m ≡ say_in marks N m (Number l ends)
  unfolding say_in
  say_past h = rw (le-ltb (place l) N h)

  module _ (h : place l < N) where
    pub say_twice : (num m (place l) ≡ 0 → ⊥) → fault 63 m ≡ say_in marks N m (Number l ends)
    unfolding say_in
    say_twice k = rw (lt-ltb (place l) N h, ne_eqb (num m (place l)) 0 k)

    module _ (k : num m (place l) ≡ 0) where
      pub say_loose : ends ≡ false → fault 61 m ≡ say_in marks N m (Number l ends)
      unfolding say_in
      say_loose e = rw (lt-ltb (place l) N h, eq-eqb (num m (place l)) 0 k, e)

      pub say_more : ends ≡ true → more (set m (place l) (mark l)) ≡ say_in marks N m (Number l ends)
      unfolding say_in
      say_more e = rw (lt-ltb (place l) N h, eq-eqb (num m (place l)) 0 k, e)

-- ---- the words of a line: w is the first of ps, r its answer, and m' the marks behind it

module _ (N : ℕ) (m : List ℕ) (long : length m ≡ N) (ps rest : Pieces) (w : List ℕ) (e : Bool) (parts : ps ≡ joined e w rest)
    (t : Token) (is : t ≡ token w) (r : Result Progress Fault) (m' : List ℕ) (answer : part_of r m' ≡ say_in marks (length m) m t) where
  said : part_of r m' ≡ say_in marks N m (token w)
  said = answer ∙ ap (λ n. say_in marks n m t) long ∙ ap (say_in marks N m) is

  words : Part (List ℕ) → Part (List ℕ)
  words p = goes p (λ marked. numbers_in marks N marked rest)

  pub last_word : e ≡ false → part_of r m' ≡ numbers_in marks N m ps
  unfolding numbers_in
  last_word p = said ∙ sym (ap (numbers_in marks N m) (rw p at parts))

  a_word : e ≡ true → words (part_of r m') ≡ numbers_in marks N m ps
  unfolding words numbers_in
  a_word p = ap words said ∙ sym (ap (numbers_in marks N m) (rw p at parts))

  pub bad_word : (f : Fault) → r ≡ Err f → fault (number_of f) m' ≡ numbers_in marks N m ps
  unfolding words
  bad_word f k = go e refl
    where
      go : (b : Bool) → e ≡ b → fault (number_of f) m' ≡ numbers_in marks N m ps
      go true p = rw k at (a_word p)
      go false p = rw k at (last_word p)

  pub early_zero : e ≡ true → r ≡ Ok Closed → fault 61 m' ≡ numbers_in marks N m ps
  unfolding words
  early_zero p k = rw k at (a_word p)

  pub next_word : e ≡ true → r ≡ Ok More → numbers_in marks N m ps ≡ numbers_in marks N m' rest
  unfolding words
  next_word p k = sym (rw k at (a_word p))

-- ---- a line among those of `v`: a comment says nothing

abbrev values : Bool → Bool → Bool → Bool → Kind
values a b c d = cond a Comment (cond b Satisfiable (cond c Unsatisfiable (cond d Values Other)))

begins_values : (p : List ℕ) → kind_of p ≡ Values → starts (118 ∷ 32 ∷ []) p ≡ true
unfolding kind_of
begins_values p = go (comment p) (is satisfiable p) (is unsatisfiable p) (starts (118 ∷ 32 ∷ []) p)
  where
    go : (a b c d : Bool) → values a b c d ≡ Values → d ≡ true
    go a b c true e = refl
    go true b c false e = cc
    go false true c false e = cc
    go false false true false e = cc
    go false false false false e = cc

-- there is room for `v `
pub v_room : (p : List ℕ) → Values ≡ kind_of p → 2 ≤ length p
v_room p h = omega (arith, starts_length (118 ∷ 32 ∷ []) p (begins_values p (sym h)))

module _ (N : ℕ) (m : List ℕ) (p : List ℕ) where
  abbrev pub line_in : Part (List ℕ)
  line_in = cond (comment p) (more m) (value_line_in marks N m p)

  abbrev pub says : Kind → Part (List ℕ)
  says Comment = more m
  says Satisfiable = fault 61 m
  says Unsatisfiable = fault 61 m
  says Values = numbers_in marks N m (cut 32 (drop 2 p))
  says Other = fault 61 m

  -- the kinds that are neither
  pub says_else : (q : Kind) → (q ≡ Comment → ⊥) → (q ≡ Values → ⊥) → fault 61 m ≡ says q
  says_else Comment f g = absurd (f refl)
  says_else Satisfiable f g = refl
  says_else Unsatisfiable f g = refl
  says_else Values f g = absurd (g refl)
  says_else Other f g = refl

  line_kind : says (kind_of p) ≡ line_in
  unfolding kind_of value_line_in
  line_kind =
      go (comment p) (is satisfiable p) (is unsatisfiable p) (starts (118 ∷ 32 ∷ []) p)
      (other_line 115 _ p (λ e. omega arith)) (other_line 115 _ p (λ e. omega arith))
    where
      go : (a b c d : Bool) → (d ≡ true → b ≡ false) → (d ≡ true → c ≡ false)
          → says (values a b c d) ≡ cond a (more m) (cond d (numbers_in marks N m (cut 32 (drop 2 p))) (fault 61 m))
      go true b c d f g = refl
      go false true c true f g = absurd (false≢true (sym (f refl)))
      go false true c false f g = refl
      go false false true true f g = absurd (false≢true (sym (g refl)))
      go false false true false f g = refl
      go false false false true f g = refl
      go false false false false f g = refl

  module _ (q : Kind) (kind : q ≡ kind_of p) where
    pub line_says : says q ≡ line_in
    line_says = ap says kind ∙ line_kind

    pub no_line : (q ≡ Comment → ⊥) → (q ≡ Values → ⊥) → fault 61 m ≡ line_in
    no_line f g = says_else q f g ∙ line_says

  -- as a last line without LF it comes to 61 either way
  pub line_unended : (k : ℕ) → unended k line_in ≡ unended k (value_line_in marks N m p)
  unfolding value_line_in
  line_unended k = go (comment p) (starts (118 ∷ 32 ∷ []) p) (other_start 99 [] p (λ e. omega arith))
    where
      go : (a d : Bool) → (d ≡ true → a ≡ false)
          → unended k (cond a (more m) (cond d (numbers_in marks N m (cut 32 (drop 2 p))) (fault 61 m)))
          ≡ unended k (cond d (numbers_in marks N m (cut 32 (drop 2 p))) (fault 61 m))
      go true true f = absurd (false≢true (sym (f refl)))
      go true false f = refl
      go false d f = refl

-- ---- the lines: what line k comes to, by its kind, with the rest from line k' on

module _ (k k' : ℕ) (rest : Pieces) where
  abbrev pub opens : Kind → Opened
  opens Comment = opening k' rest
  opens Satisfiable = begun k' rest
  opens Unsatisfiable = stopped 66 k
  opens Values = stopped 61 k
  opens Other = stopped 61 k

  pub opens_else : (q : Kind) → (q ≡ Comment → ⊥) → (q ≡ Satisfiable → ⊥) → (q ≡ Unsatisfiable → ⊥) → stopped 61 k ≡ opens q
  opens_else Comment f g h = absurd (f refl)
  opens_else Satisfiable f g h = absurd (g refl)
  opens_else Unsatisfiable f g h = absurd (h refl)
  opens_else Values f g h = refl
  opens_else Other f g h = refl

  abbrev pub closes : Kind → Option ℕ
  closes Comment = closing k' rest
  closes Satisfiable = Some k
  closes Unsatisfiable = Some k
  closes Values = Some k
  closes Other = Some k

  pub closes_else : (q : Kind) → (q ≡ Comment → ⊥) → Some k ≡ closes q
  closes_else Comment h = absurd (h refl)
  closes_else Satisfiable h = refl
  closes_else Unsatisfiable h = refl
  closes_else Values h = refl
  closes_else Other h = refl

-- p is the first line of ps, with number k and kind q

module _ (k k' : ℕ) (ps rest : Pieces) (p : List ℕ) (e : Bool) (parts : ps ≡ joined e p rest) (next : k' ≡ k + from_bool e) where
  following : e ≡ true → suc k ≡ k'
  following t = omega (arith, rw t at next)

  whole : e ≡ true → ps ≡ piece p rest
  whole t = rw t at parts

  open_end : e ≡ false → ps ≡ last p
  open_end t = rw t at parts

  pub open_last : e ≡ false → stopped 61 k ≡ opening k ps
  unfolding opening
  open_last t = rw (open_end t)

  pub close_empty : e ≡ false → length p ≡ 0 → None ≡ closing k ps
  unfolding closing
  close_empty t h = rw (open_end t) (go p h)
    where
      go : (p : List ℕ) → length p ≡ 0 → None ≡ closing k (last p)
      go [] h = refl
      go (b ∷ bs) h = absurd (omega arith)

  pub close_last : e ≡ false → (length p ≡ 0 → ⊥) → Some k ≡ closing k ps
  unfolding closing
  close_last t h = rw (open_end t) (go p h)
    where
      go : (p : List ℕ) → (length p ≡ 0 → ⊥) → Some k ≡ closing k (last p)
      go [] h = absurd (h refl)
      go (b ∷ bs) h = refl

  module _ (t : e ≡ true) (q : Kind) (kind : q ≡ kind_of p) where
    open_kind : opens k k' rest (kind_of p) ≡ opening k ps
    unfolding opening kind_of
    open_kind = rw (whole t, following t) (go (comment p) (is satisfiable p) (is unsatisfiable p) (starts (118 ∷ 32 ∷ []) p))
      where
        go : (a b c d : Bool) → opens k k' rest (values a b c d)
            ≡ cond a (opening k' rest) (cond b (begun k' rest) (cond c (stopped 66 k) (stopped 61 k)))
        go true b c d = refl
        go false true c d = refl
        go false false true d = refl
        go false false false true = refl
        go false false false false = refl

    pub open_line : opens k k' rest q ≡ opening k ps
    open_line = ap (opens k k' rest) kind ∙ open_kind

    pub open_other : (q ≡ Comment → ⊥) → (q ≡ Satisfiable → ⊥) → (q ≡ Unsatisfiable → ⊥) → stopped 61 k ≡ opening k ps
    open_other f g h = go q f g h ∙ open_line
      where
        go : (q : Kind) → (q ≡ Comment → ⊥) → (q ≡ Satisfiable → ⊥) → (q ≡ Unsatisfiable → ⊥) → stopped 61 k ≡ opens k k' rest q
        go Comment f g h = absurd (f refl)
        go Satisfiable f g h = absurd (g refl)
        go Unsatisfiable f g h = absurd (h refl)
        go Values f g h = refl
        go Other f g h = refl

    close_kind : closes k k' rest (kind_of p) ≡ closing k ps
    unfolding closing kind_of
    close_kind = rw (whole t, following t) (go (comment p) (is satisfiable p) (is unsatisfiable p) (starts (118 ∷ 32 ∷ []) p))
      where
        go : (a b c d : Bool) → closes k k' rest (values a b c d) ≡ cond a (closing k' rest) (Some k)
        go true b c d = refl
        go false true c d = refl
        go false false true d = refl
        go false false false true = refl
        go false false false false = refl

    pub close_comment : q ≡ Comment → closing k ps ≡ closing k' rest
    close_comment h = sym (rw h at (ap (closes k k' rest) kind ∙ close_kind))

    pub close_other : (q ≡ Comment → ⊥) → Some k ≡ closing k ps
    close_other h = go q h ∙ ap (closes k k' rest) kind ∙ close_kind
      where
        go : (q : Kind) → (q ≡ Comment → ⊥) → Some k ≡ closes k k' rest q
        go Comment h = absurd (h refl)
        go Satisfiable h = refl
        go Unsatisfiable h = refl
        go Values h = refl
        go Other h = refl

  -- r is the answer to the line p, and m' the marks behind it
  module _ (N : ℕ) (m : List ℕ) (long : length m ≡ N) (r : Result Progress Fault) (m' : List ℕ)
      (answer : part_of r m' ≡ line_in (length m) m p) where
    said_line : part_of r m' ≡ line_in N m p
    said_line = answer ∙ ap (λ n. line_in n m p) long

    a_line : e ≡ true → after k (part_of r m') rest (λ m''. value_lines_in marks N k' m'' rest) ≡ value_lines_in marks N k m ps
    unfolding value_lines_in
    a_line t = rw (whole t, ← following t)
        (ap (λ (l : Part (List ℕ)). after k l rest (λ m''. value_lines_in marks N (suc k) m'' rest)) said_line ∙ go (comment p))
      where
        go : (a : Bool) → after k (cond a (more m) (value_line_in marks N m p)) rest (λ m''. value_lines_in marks N (suc k) m'' rest)
            ≡ cond a (value_lines_in marks N (suc k) m rest)
            (after k (value_line_in marks N m p) rest (λ m''. value_lines_in marks N (suc k) m'' rest))
        go true = refl
        go false = refl

    an_open_line : e ≡ false → unended k (part_of r m') ≡ value_lines_in marks N k m ps
    unfolding value_lines_in
    an_open_line t = rw (open_end t) (ap (unended k) said_line ∙ line_unended N m p k)

    pub values_fault : (f : Fault) → r ≡ Err f → halted (number_of f) k m' ≡ value_lines_in marks N k m ps
    values_fault f h = go e refl
      where
        go : (b : Bool) → e ≡ b → halted (number_of f) k m' ≡ value_lines_in marks N k m ps
        go true t = rw h at (a_line t)
        go false t = rw h at (an_open_line t)

    pub values_last : e ≡ false → (x : Progress) → r ≡ Ok x → halted 61 k m' ≡ value_lines_in marks N k m ps
    values_last t More h = rw h at (an_open_line t)
    values_last t Closed h = rw h at (an_open_line t)

    pub values_closed : e ≡ true → r ≡ Ok Closed → told k' rest m' ≡ value_lines_in marks N k m ps
    values_closed t h = rw (← following t) (rw h at (a_line t))

    pub values_more : e ≡ true → r ≡ Ok More → value_lines_in marks N k m ps ≡ value_lines_in marks N k' m' rest
    values_more t h = sym (rw h at (a_line t))

-- ---- a result whose error was made into another

module _ {T E D : Type 0} (P : E → D → Type 0) where
  pub mapped_ok : (r : Result T E) (s : Result T D) → MatchResult r (λ x. s ≡ Ok x) (λ e. IsErrAnd s (P e)) → (x : T) → s ≡ Ok x → r ≡ Ok x
  mapped_ok (Ok y) s m x h = cc
  mapped_ok (Err e) s m x h = absurd (rw h at m)

  pub mapped_err : (r : Result T E) (s : Result T D) → MatchResult r (λ x. s ≡ Ok x) (λ e. IsErrAnd s (P e)) → (d : D) → s ≡ Err d
      → (e : E) × ((r ≡ Err e) × P e d)
  mapped_err (Ok y) s m d h = absurd (cc)
  mapped_err (Err e) s m d h = (e, (refl, rw h at m))
