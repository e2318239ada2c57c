-- 45 by examples: tables that are fit, and for each condition of 01's sentence tables that break it alone. Proved in proofs/FitCases.
use Rattle.std.specs.Prelude.{◌≡◌, true, false, List, [], ◌∷◌, map, ℕ, ◌+◌, ◌-◌, pos, negsuc, get_or, replicate}
use Rattle.lists.specs.Rows.{each}
use Rattle.lists.specs.Writing.{write}
use Rattle.job.specs.declared.Job.{Job}
use Rattle.job.specs.Limits.{max_steps, max_lemmas, max_names, max_bound}
use Rattle.job.specs.Words.{no_word, start, crash}
use Rattle.job.specs.Fitness.{fit}
use Rattle.job.specs.OneBit.{one_bit}

-- ---- tables by their rows: process, kind, L, M, V and v of each step

abbrev pub Rows : Type 0
Rows = List (List ℕ)

abbrev process : ℕ
process = 0

abbrev kind : ℕ
kind = 1

abbrev to : ℕ
to = 2

abbrev other : ℕ
other = 3

abbrev variable : ℕ
variable = 4

abbrev value : ℕ
value = 5

abbrev row : Rows → ℕ → List ℕ
row rows i = get_or rows i []

-- with a word, a bound, m steps, n variables, no lemma, and these bytes as names
unfoldable pub worded_table : ℕ → ℕ → ℕ → ℕ → List ℕ → Rows → Job
worded_table word bound m n bytes rows = record {
  program = record {
    bound = bound;
    word = word;
    steps = m;
    variables = n;
    process = row rows process;
    kind = row rows kind;
    to = row rows to;
    other = row rows other;
    variable = row rows variable;
    value = row rows value;
  };
  labels = bytes;
  names = bytes;
  lemmas = 0;
  lengths = [];
  items = [];
}

unfoldable pub table_of : ℕ → ℕ → ℕ → List ℕ → Rows → Job
table_of = worded_table no_word

-- `A0 critical goto A1`, `A1 if a=0 goto A0 else A2`, `A2 b=1 goto A1`, `B0 maybe goto B0`, `B1 maybe goto B1`
abbrev pub five : Rows
five =
    (1 ∷ 1 ∷ 1 ∷ 2 ∷ 2 ∷ [])
    ∷ (2 ∷ 4 ∷ 3 ∷ 1 ∷ 1 ∷ [])
    ∷ (2 ∷ 1 ∷ 2 ∷ 4 ∷ 5 ∷ [])
    ∷ (0 ∷ 3 ∷ 0 ∷ 0 ∷ 0 ∷ [])
    ∷ (0 ∷ 1 ∷ 2 ∷ 0 ∷ 0 ∷ [])
    ∷ (0 ∷ 0 ∷ 1 ∷ 0 ∷ 0 ∷ [])
    ∷ []

-- `A maybe goto A`, and steps of B that `maybe goto` the first of them, as many as the limit leaves
abbrev most : Rows
most = (1 ∷ replicate (max_steps - 1) 2) ∷ replicate max_steps 1 ∷ (1 ∷ replicate (max_steps - 1) 2) ∷ []

-- as rows are, but for x in row i at step c
abbrev set : ℕ → ℕ → ℕ → Rows → Rows
set i c x rows = write rows i (write (row rows i) (c - 1) (x ∷ []) ∷ [])

-- the table of five, but for that number
abbrev with : ℕ → ℕ → ℕ → Job
with i c x = table_of 1 5 2 [] (set i c x five)

-- and B0 critical as A0 is
abbrev both_first : Rows
both_first = set kind 4 2 five

-- ---- which are fit, and which are not

unfoldable pub fit_tables : List Job
fit_tables =
    table_of 1 5 2 [] five
    ∷ one_bit 1 1 (1 ∷ []) (negsuc 2 ∷ [])
    -- 'Names and text length are not looked at.'
    ∷ table_of 1 5 2 (255 ∷ 255 ∷ []) five
    -- at the limits; all 100 lemmas are too many to evaluate, and tests have them
    ∷ table_of max_bound 5 2 [] five
    ∷ table_of 1 max_steps 0 [] most
    ∷ one_bit 1 1 (max_names ∷ []) (replicate max_names (pos 3))
    -- with each word; 'where a job may begin anywhere, two critical first steps are no fault'
    ∷ worded_table start 1 5 2 [] five
    ∷ worded_table crash 1 5 2 [] five
    ∷ table_of 1 5 2 [] both_first
    ∷ []

unfoldable pub unfit_tables : List Job
unfit_tables =
    -- 'bound and counts are in the limits'
    table_of 0 5 2 [] five
    ∷ table_of (max_bound + 1) 5 2 [] five
    ∷ table_of 1 (max_steps + 1) 0 [] most
    ∷ one_bit 1 (max_lemmas + 1) (replicate max_lemmas 1) (each max_lemmas λ k. pos 1 ∷ replicate (max_names - 1) (pos 0))
    -- 'processes, kinds and v in range'
    ∷ with process 5 0
    ∷ with process 5 3
    ∷ with kind 5 0
    ∷ with kind 3 5
    ∷ with value 2 2
    ∷ with value 3 2
    -- 'L and M steps of the step's own process'
    ∷ with to 3 0
    ∷ with to 3 6
    ∷ with to 3 4
    ∷ with other 2 0
    ∷ with other 2 6
    ∷ with other 2 4
    -- 'variables numbered as first mentioned': b before a, one left out, none of an if; a variable that no step mentions, and one too few
    ∷ table_of 1 5 2 [] (set variable 2 2 (set variable 3 1 five))
    ∷ table_of 1 5 3 [] (set variable 3 3 five)
    ∷ table_of 1 5 1 [] (set variable 2 0 (set variable 3 1 five))
    ∷ table_of 1 5 3 [] five
    ∷ table_of 1 5 1 [] five
    -- 'each lemma 1 to 64 items of this job': no name, one too many, item 0, item 4 of 3, and its negation
    ∷ one_bit 1 1 (0 ∷ []) []
    ∷ one_bit 1 1 ((max_names + 1) ∷ []) (replicate max_names (pos 3))
    ∷ one_bit 1 1 (1 ∷ []) (pos 0 ∷ [])
    ∷ one_bit 1 1 (1 ∷ []) (pos 4 ∷ [])
    ∷ one_bit 1 1 (1 ∷ []) (negsuc 3 ∷ [])
    -- 'none of 55, 98, 99 applies': both first steps critical with a word, all steps A's, all steps B's
    ∷ worded_table start 1 5 2 [] both_first
    ∷ worded_table crash 1 5 2 [] both_first
    ∷ table_of 1 5 2 [] (set process 4 1 (set process 5 1 five))
    ∷ table_of 1 5 2 [] (set process 1 2 (set process 2 2 (set process 3 2 five)))
    -- 'and unused places are 0': M of an assignment, V and v of a maybe
    ∷ with other 3 1
    ∷ with variable 4 1
    ∷ with value 4 1
    -- a sixth step
    ∷ with process 6 1
    ∷ with kind 6 1
    ∷ with to 6 1
    ∷ with other 6 1
    ∷ with variable 6 1
    ∷ with value 6 1
    -- a name past a lemma's length, a length and a name past the last lemma
    ∷ one_bit 1 1 (1 ∷ []) (pos 1 ∷ pos 1 ∷ [])
    ∷ one_bit 1 0 (1 ∷ []) (pos 1 ∷ [])
    ∷ one_bit 1 0 [] (pos 1 ∷ [])
    -- a third word
    ∷ worded_table (crash + 1) 1 5 2 [] five
    ∷ []

abbrev pub Claim : Type 0
Claim = (map fit fit_tables ≡ map (λ J. true) fit_tables) × (map fit unfit_tables ≡ map (λ J. false) unfit_tables)
