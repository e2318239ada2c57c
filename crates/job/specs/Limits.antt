-- The limits of document 01, 'The job text'. The constants of `Job` in src/ are these numbers: the proofs of the calls tie the two.
use Rattle.std.specs.Prelude.{ℕ}

abbrev pub max_steps : ℕ
max_steps = 100

abbrev pub max_lemmas : ℕ
max_lemmas = 100

-- names in one lemma
abbrev pub max_names : ℕ
max_names = 64

-- bytes in a job text
abbrev pub max_text : ℕ
max_text = 32768

abbrev pub max_bound : ℕ
max_bound = 99
