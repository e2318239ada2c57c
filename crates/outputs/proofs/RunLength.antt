-- The lines of a run that was read off go into the room for them: a bit is one digit, and the table is within the limits.
use mathlib.Core.Path.{◌≡◌, ap, ◌∙◌}
use mathlib.Core.Bool.{Bool, true, false}
use mathlib.Core.List.{List, [], ◌∷◌, ◌++◌, map}
use Prim.Native.Nat.{ℕ, suc, ◌+◌, ◌*◌, ◌≤◌, ◌<◌}
use native.Mathlib.Omega.{arith}
use native.Mathlib.Nat.{mul-le-mul}
use lib.ListN.{length, get_or, drop, length-map, get_or-append, get_or-map}
use Rattle.lists.specs.Rows.{each, num}
use Rattle.lists.specs.Writing.{write}
use Rattle.lists.proofs.RowLaws.{length_rows, length_tab, get_d_each, row_fits}
use Rattle.job.specs.declared.Job.{Job}
use Rattle.job.specs.declared.Program.{Program}
use Rattle.job.specs.Limits.{max_bound, max_steps}
use Rattle.job.specs.Table.{m, n, r}
use Rattle.job.specs.Numbering.{item}
use Rattle.job.specs.Satisfaction.{value_at}
use Rattle.job.specs.ReadOff.{byte, state_read, run_read, turn_byte, group, group_length, run_bytes}
use Rattle.job.specs.RunToValues.{group_byte}
use Rattle.job.specs.Fitness.{fit}
use Rattle.job.proofs.FitnessLaws.{fit_sizes}
use Rattle.readoff.proofs.ReadingLaws.{state_at_lem, length_group}
use Rattle.text.specs.RunText.{run_line_room, run_line}
use Rattle.text.proofs.LengthLaws.{each_length, line_length}
use Rattle.outputs.specs.Show.{shown_room}

byte_small : (b : Bool) → byte b ≤ 1
byte_small true = omega arith
byte_small false = omega arith

module _ (P : Program) (values old : List ℕ) where
  abbrev bytes : List ℕ
  bytes = write old 0 (run_bytes P (run_read P values))

  module _ (t : ℕ) (l : t ≤ r P) where
    bit_at : (x : ℕ) → x < n P → get_or (group P (run_read P values) t) (suc (suc x)) 0 ≤ 1
    unfolding group state_read
    bit_at x h =
        let s = (state_read P values t).bits in
        let k : length s ≡ n P = length_tab (n P) (λ x. value_at values (item P t (m P + x))) in
        let e : get_or (map byte s ++ (turn_byte P (run_read P values) t ∷ [])) x 0 ≡ byte (get_or s x false) =
        get_or-append (map byte s) (turn_byte P (run_read P values) t ∷ []) 0 x (rw (length-map, k) h) ∙ get_or-map byte s x false in
        rw (state_at_lem P values t l, e) (byte_small (get_or s x false))

    rows : (k : ℕ) → k ≤ suc (r P) → length (each k (group P (run_read P values))) ≡ k * group_length P
    rows k h = length_rows (group P (run_read P values)) k (group_length P) (λ i j. length_group P values i (omega arith))

    -- byte 2 + x of the group of time t is a bit
    bit_small : (x : ℕ) → x < n P → group_byte P bytes t (2 + x) < 10
    unfolding run_bytes
    bit_small x h =
        let g = group P (run_read P values) in
        let p = each (suc (r P)) g in
        let i : ℕ = t * group_length P + (2 + x) in
        let e : i ≡ length (each t g) + suc (suc x) = omega (arith, rows t (omega arith)) in
        let within : i < length p = omega (arith, rows (suc (r P)) (omega arith), row_fits t (r P) (group_length P) l) in
        let k : suc (suc x) < length (g t) = omega (arith, length_group P values t l) in
        let q : num bytes i ≡ get_or (g t) (suc (suc x)) 0 =
        get_or-append p (drop (0 + length p) old) 0 i within ∙ ap (λ i. get_or p i 0) e
        ∙ get_d_each g (suc (r P)) t (suc (suc x)) 0 (omega arith) k in
        rw q (omega (arith, bit_at x h))

pub run_fits : (J : Job) → fit J ≡ true → (values old : List ℕ)
    → length (each (suc (r J.program)) (run_line J (write old 0 (run_bytes J.program (run_read J.program values))))) ≤ shown_room
run_fits J h values old =
    let P = J.program in
    let z = fit_sizes J h in
    let bs = bytes P values old in
    let lines = each_length (suc (r P)) (run_line_room (n P)) (run_line J bs)
    λ t l. line_length J.labels J.names (n P) (group_byte P bs t) t (omega (arith, z.bound_high))
    (bit_small P values old t (omega arith)) in
    let all = mul-le-mul {n₁ = suc (r P)} {m₁ = run_line_room (n P)} {n₂ = suc max_bound} {m₂ = run_line_room max_steps}
    (omega (arith, z.bound_high)) (omega (arith, z.variables)) in
    omega arith
