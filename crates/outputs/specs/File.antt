-- What the third program prints of a job text: its filing form (document 02, S-1).
use Rattle.std.specs.Prelude.{List, ℕ}
use Rattle.parse.specs.Reading.{read_job}
use Rattle.form.specs.Form.{form}
use Rattle.outputs.specs.Printing.{or_refusal}

unfoldable pub filed : List ℕ → List ℕ
filed text = or_refusal (read_job text).answer λ _. form text (read_job text).table
