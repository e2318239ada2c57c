-- A run and its bytes: the bytes of a run, whatever stands behind them, give that run again and break no rule; bytes that break none
-- begin with those of the run that they give.
use mathlib.Core.Path.{◌≡◌, refl, sym, ap, ◌∙◌}
use mathlib.Core.Bool.{Bool, true, false, cond}
use mathlib.Core.List.{List, [], ◌∷◌, ◌++◌, map}
use mathlib.Core.Logic.{◌⊎◌, inl, inr}
use Prim.Native.Nat.{ℕ, zero, suc, ◌+◌, ◌*◌, ◌≤◌, ◌<◌}
use native.Mathlib.Omega.{arith}
use native.Mathlib.Decide.{dec_lt}
use borrow.Author.Tests.{lt-ltb, le-ltb, le-leb, leb-true, eqb-true, eq-eqb, eqb-false}
use lib.Dec.{eqb, leb, ltb}
use lib.ListN.{length, get_or, take, drop, length-append, length-map, length-drop, get_or-append, get_or-map}
use lib.Seq.{take-add, get_or-take, get_or-drop, get_or_at, ext_get_or, length-take-le}
use Rattle.lists.specs.Rows.{each, num}
use Rattle.lists.specs.Tests.{every, all, within}
use Rattle.lists.proofs.Logic.{split}
use Rattle.lists.proofs.RowLaws.{length_rows, length_tab, get_d_tab, get_d_each, each_same, row_fits}
use Rattle.lists.proofs.TestLaws.{passed, pass, all_at, all_of, is_within, within_is}
use Rattle.lists.proofs.PlaceLaws.{row_all, all_row}
use Rattle.job.specs.declared.Job.{Job}
use Rattle.job.specs.declared.Program.{Program}
use Rattle.job.specs.Table.{Process, A, B, m, n, r}
use Rattle.job.specs.Meaning.{State, Run, pc, bit, nowhere, state_at, turn_at, holds_at, is_run}
use Rattle.job.specs.ReadOff.{byte, turn_byte, group, group_length, run_bytes}
use Rattle.job.specs.RunToValues.{group_byte, state_of, run_of, bytes_fit, run_fault}
use Rattle.job.proofs.MeaningLaws.{state_path, IsRun}
use Rattle.job.proofs.ValueLaws.{value_byte, small_byte}
use Rattle.readoff.specs.ReadingOff.{run_length}
use Rattle.values.proofs.RunLaws.{state_at_lem, turn_at_lem}

-- ---- a byte and its bit

byte_back : (x : ℕ) → x ≤ 1 → byte (eqb x 1) ≡ x
byte_back x h = go (split (eqb x 1))
  where
    go : (eqb x 1 ≡ true) ⊎ (eqb x 1 ≡ false) → byte (eqb x 1) ≡ x
    go (inl e) = rw e (sym (eqb-true x 1 e))
    go (inr e) = let ne = eqb-false x 1 e in let z : x ≡ 0 = omega arith in rw e (sym z)

-- ---- a group, byte by byte

module _ (P : Program) (R : Run) (t : ℕ) (width : length (state_at R t).bits ≡ n P) where
  abbrev s : State
  s = state_at R t

  length_map_bits : length (map byte s.bits) ≡ n P
  length_map_bits = length-map s.bits byte ∙ width

  pub length_group : length (group P R t) ≡ group_length P
  unfolding group
  length_group = let k = length_map_bits in omega (arith, length-append (map byte s.bits) (turn_byte P R t ∷ []))

  at_a : get_or (group P R t) 0 0 ≡ suc s.a
  unfolding group
  at_a = refl

  at_b : get_or (group P R t) 1 0 ≡ suc s.b
  unfolding group
  at_b = refl

  at_bit : (x : ℕ) → x < n P → get_or (group P R t) (2 + x) 0 ≡ byte (bit s x)
  unfolding group
  at_bit x l =
      let e : 2 + x ≡ suc (suc x) = omega arith in
      ap (λ i. get_or (group P R t) i 0) e
      ∙ get_or-append (map byte s.bits) (turn_byte P R t ∷ []) 0 x (rw length_map_bits l)
      ∙ get_or-map byte s.bits x false

  at_turn : get_or (group P R t) (2 + n P) 0 ≡ turn_byte P R t
  unfolding group
  at_turn =
      let e : 2 + n P ≡ suc (suc (n P)) = omega arith in
      ap (λ i. get_or (group P R t) i 0) e ∙ get_or_at (map byte s.bits) (turn_byte P R t) [] 0 (n P) length_map_bits

-- ---- the bytes of a run

turn_back : (x : Bool) → eqb (cond x 1 2) 1 ≡ x
turn_back true = refl
turn_back false = refl

turn_within : (x : Bool) → within 1 2 (cond x 1 2) ≡ true
turn_within true = within_is 1 2 1 (omega arith) (omega arith)
turn_within false = within_is 1 2 2 (omega arith) (omega arith)

pub length_bytes : (J : Job) (R : Run) → IsRun J R → length (run_bytes J.program R) ≡ run_length J.program
unfolding run_bytes
length_bytes J R run =
    let P = J.program in
    length_rows (group P R) (suc (r P)) (group_length P) (λ i l. length_group P R i (run.states i (omega arith)).width)

module _ (J : Job) (R : Run) (run : IsRun J R) (rest : List ℕ) where
  abbrev P : Program
  P = J.program

  abbrev bs : List ℕ
  bs = run_bytes J.program R ++ rest

  width_at : (t : ℕ) → t ≤ r P → length (state_at R t).bits ≡ n P
  width_at t l = (run.states t l).width

  rows : (k : ℕ) → k ≤ suc (r P) → length (each k (group P R)) ≡ k * group_length P
  rows k h = length_rows (group P R) k (group_length P) (λ i l. length_group P R i (width_at i (omega arith)))

  byte_at : (t i : ℕ) → t ≤ r P → i < group_length P → group_byte P bs t i ≡ get_or (group P R t) i 0
  unfolding run_bytes
  byte_at t i l h =
      let e = rows t (omega arith) in
      let k : i < length (group P R t) = rw (length_group P R t (width_at t l)) h in
      let inside : t * group_length P + i < length (run_bytes P R) =
      rw (length_bytes J R run) (omega (arith, row_fits t (r P) (group_length P) l)) in
      get_or-append (run_bytes P R) rest 0 (t * group_length P + i) inside
      ∙ ap (λ k. num (run_bytes P R) (k + i)) (sym e)
      ∙ get_d_each (group P R) (suc (r P)) t i 0 (omega arith) k

  module _ (t : ℕ) (l : t ≤ r P) where
    byte_a : group_byte P bs t 0 ≡ suc (state_at R t).a
    byte_a = byte_at t 0 l (omega arith) ∙ at_a P R t (width_at t l)

    byte_b : group_byte P bs t 1 ≡ suc (state_at R t).b
    byte_b = byte_at t 1 l (omega arith) ∙ at_b P R t (width_at t l)

    byte_bit : (x : ℕ) → x < n P → group_byte P bs t (2 + x) ≡ byte (bit (state_at R t) x)
    byte_bit x h = byte_at t (2 + x) l (omega arith) ∙ at_bit P R t (width_at t l) x h

    byte_turn : group_byte P bs t (2 + n P) ≡ turn_byte P R t
    byte_turn = byte_at t (2 + n P) l (omega arith) ∙ at_turn P R t (width_at t l)

    state_back : state_of P bs t ≡ state_at R t
    unfolding state_of
    state_back =
        state_path (state_of P bs t) (state_at R t) pcs
        (ext_get_or false (state_of P bs t).bits (state_at R t).bits (long ∙ sym (width_at t l)) at)
      where
        pcs : (q : Process) → pc (state_of P bs t) q ≡ pc (state_at R t) q
        pcs true = omega (arith, byte_a)
        pcs false = omega (arith, byte_b)

        long : length (state_of P bs t).bits ≡ n P
        long = length_tab (n P) _

        at : (x : ℕ) → x < length (state_of P bs t).bits → get_or (state_of P bs t).bits x false ≡ get_or (state_at R t).bits x false
        at x h =
            let k : x < n P = rw long at h in
            get_d_tab (n P) (λ x. eqb (group_byte P bs t (2 + x)) 1) x false k
            ∙ ap (λ b. eqb b 1) (byte_bit x k)
            ∙ value_byte (bit (state_at R t) x)

    turn_read : t < r P → eqb (group_byte P bs t (2 + n P)) 1 ≡ turn_at R t
    unfolding turn_byte
    turn_read h = ap (λ b. eqb b 1) byte_turn ∙ rw (lt-ltb t (r P) h) (turn_back (turn_at R t))

    bytes_fit_lem : bytes_fit P bs t ≡ true
    unfolding bytes_fit turn_byte
    bytes_fit_lem =
        let (a, _) = (run.states t l).stands A in
        let (b, _) = (run.states t l).stands B in
        pass _ (
          rw byte_a (within_is 1 (m P) (suc (state_at R t).a) (omega arith) a),
          (
            rw byte_b (within_is 1 (m P) (suc (state_at R t).b) (omega arith) b),
            (
              all_of _ (n P) (λ x h. rw (byte_bit x h) (le-leb (byte (bit (state_at R t) x)) 1 (small_byte (bit (state_at R t) x)))),
              (last (dec_lt t (r P)), tt),
            ),
          ),
        )
      where
        last : Dec (t < r P) → cond (ltb t (r P)) (within 1 2 (group_byte P bs t (2 + n P))) (eqb (group_byte P bs t (2 + n P)) 0) ≡ true
        last (yes h) = rw (byte_turn, lt-ltb t (r P) h) (turn_within (turn_at R t))
        last (no h) = rw (byte_turn, le-ltb t (r P) (omega arith))

  pub run_back : run_of J.program (run_bytes J.program R ++ rest) ≡ R
  unfolding run_of
  run_back = λ i. record { states = states i; turns = turns i }
    where
      states : (run_of P bs).states ≡ R.states
      states = ext_get_or nowhere (run_of P bs).states R.states (length_tab (suc (r P)) (state_of P bs) ∙ sym run.long) λ t h.
          let l : t < suc (r P) = rw (length_tab (suc (r P)) (state_of P bs)) at h in
          get_d_tab (suc (r P)) (state_of P bs) t nowhere l ∙ state_back t (omega arith)

      turns : (run_of P bs).turns ≡ R.turns
      turns = ext_get_or false (run_of P bs).turns R.turns (length_tab (r P) (λ t. eqb (group_byte P bs t (2 + n P)) 1) ∙ sym run.turns)
          λ t h.
          let l : t < r P = rw (length_tab (r P) (λ t. eqb (group_byte P bs t (2 + n P)) 1)) at h in
          get_d_tab (r P) (λ t. eqb (group_byte P bs t (2 + n P)) 1) t false l ∙ turn_read t (omega arith) l

  pub no_fault : is_run J R ≡ true → run_fault J (run_bytes J.program R ++ rest) ≡ suc (r J.program)
  unfolding run_fault is_run
  no_fault h =
      let (_, (_, (holds, _))) = passed _ h in
      let f : ℕ → Bool = λ t. every (bytes_fit P bs t ∷ holds_at J (run_of P bs) t ∷ []) in
      row_all f (suc (r P)) (all_of f (suc (r P)) λ t l. pass _ (
        bytes_fit_lem t (omega arith),
        (rw run_back (all_at (holds_at J R) (suc (r P)) holds t l), tt),
      ))

-- ---- bytes that break no rule

-- a list is the row of its parts of one length
take_rows : (bs : List ℕ) (k i : ℕ) → take (i * k) bs ≡ each i (λ t. take k (drop (t * k) bs))
unfolding each
take_rows bs k zero = let e : 0 * k ≡ 0 = omega arith in ap (λ i. take i bs) e
take_rows bs k (suc i) =
    let e : suc i * k ≡ i * k + k = omega arith in
    ap (λ i. take i bs) e ∙ take-add (i * k) k bs ∙ ap (λ x. x ++ take k (drop (i * k) bs)) (take_rows bs k i)

module _ (J : Job) (bs : List ℕ) (whole : run_fault J bs ≡ suc (r J.program)) where
  abbrev P' : Program
  P' = J.program

  abbrev R' : Run
  R' = run_of J.program bs

  fits_at : (t : ℕ) → t ≤ r P' → (bytes_fit P' bs t ≡ true) × (holds_at J R' t ≡ true)
  unfolding run_fault
  fits_at t l =
      let f : ℕ → Bool = λ t. every (bytes_fit P' bs t ∷ holds_at J R' t ∷ []) in
      let (x, (y, _)) = passed _ (all_at f (suc (r P')) (all_row f (suc (r P')) whole) t (omega arith)) in
      (x, y)

  pub fault_free : is_run J (run_of J.program bs) ≡ true
  unfolding is_run run_of
  fault_free = pass _ (
    eq-eqb _ _ (length_tab (suc (r P')) (state_of P' bs)),
    (
      eq-eqb _ _ (length_tab (r P') (λ t. eqb (group_byte P' bs t (2 + n P')) 1)),
      (all_of (holds_at J R') (suc (r P')) (λ t l. (fits_at t (omega arith)).1), tt),
    ),
  )

  module _ (t : ℕ) (l : t ≤ r P') (room : run_length J.program ≤ length bs) where
    width : length (state_at R' t).bits ≡ n P'
    unfolding state_of
    width = ap (λ s. length s.bits) (state_at_lem P' bs t l) ∙ length_tab (n P') _

    part : List ℕ
    part = take (group_length P') (drop (t * group_length P') bs)

    length_part : length part ≡ group_length P'
    unfolding part
    length_part = length-take-le (group_length P') (drop (t * group_length P') bs)
        (rw (length-drop (t * group_length P') bs) (omega (arith, row_fits t (r P') (group_length P') l)))

    at_part : (i : ℕ) → i < group_length P' → get_or part i 0 ≡ group_byte P' bs t i
    unfolding part
    at_part i h = get_or-take (group_length P') (drop (t * group_length P') bs) i 0 h ∙ get_or-drop (t * group_length P') bs i 0

    at_group : (i : ℕ) → i < group_length P' → get_or (group P' R' t) i 0 ≡ group_byte P' bs t i
    unfolding bytes_fit state_of turn_byte
    at_group i h =
        let (a, (b, (bits, (turn, _)))) = passed _ (fits_at t l).0 in
        go i h (is_within 1 (m P') (group_byte P' bs t 0) a).0 (is_within 1 (m P') (group_byte P' bs t 1) b).0 bits turn
      where
        s : state_at R' t ≡ state_of P' bs t
        s = state_at_lem P' bs t l

        last : Dec (t < r P') → cond (ltb t (r P')) (within 1 2 (group_byte P' bs t (2 + n P'))) (eqb (group_byte P' bs t (2 + n P')) 0)
            ≡ true
            → turn_byte P' R' t ≡ group_byte P' bs t (2 + n P')
        last (yes k) q =
            let v = group_byte P' bs t (2 + n P') in
            let (x, y) = is_within 1 2 v (rw (lt-ltb t (r P') k) at q) in
            rw (lt-ltb t (r P') k, turn_at_lem P' bs t k) (named v x y (split (eqb v 1)))
          where
            named : (v : ℕ) → 1 ≤ v → v ≤ 2 → (eqb v 1 ≡ true) ⊎ (eqb v 1 ≡ false) → cond (eqb v 1) 1 2 ≡ v
            named v x y (inl e) = rw e (sym (eqb-true v 1 e))
            named v x y (inr e) = let ne = eqb-false v 1 e in let z : v ≡ 2 = omega arith in rw e (sym z)
        last (no k) q =
            let j = le-ltb t (r P') (omega arith) in
            rw j (sym (eqb-true _ 0 (rw j at q)))

        go : (i : ℕ) → i < group_length P' → 1 ≤ group_byte P' bs t 0 → 1 ≤ group_byte P' bs t 1
            → all (n P') (λ x. leb (group_byte P' bs t (2 + x)) 1) ≡ true
            → cond (ltb t (r P')) (within 1 2 (group_byte P' bs t (2 + n P'))) (eqb (group_byte P' bs t (2 + n P')) 0) ≡ true
            → get_or (group P' R' t) i 0 ≡ group_byte P' bs t i
        go zero h a b bits turn = at_a P' R' t width ∙ rw s (omega arith)
        go (suc zero) h a b bits turn = at_b P' R' t width ∙ rw s (omega arith)
        go (suc (suc x)) h a b bits turn = by (dec_lt x (n P'))
          where
            by : Dec (x < n P') → get_or (group P' R' t) (suc (suc x)) 0 ≡ group_byte P' bs t (suc (suc x))
            by (yes k) =
                let e : 2 + x ≡ suc (suc x) = omega arith in
                let small = leb-true (group_byte P' bs t (2 + x)) 1 (all_at _ (n P') bits x k) in
                let z : bit (state_at R' t) x ≡ eqb (group_byte P' bs t (2 + x)) 1 = ap (λ s. bit s x) s ∙ get_d_tab (n P') _ x false k in
                rw e at (at_bit P' R' t width x k ∙ ap byte z ∙ byte_back (group_byte P' bs t (2 + x)) small)
            by (no k) =
                let i : x ≡ n P' = omega arith in
                let e : 2 + n P' ≡ suc (suc x) = omega arith in
                rw e at (at_turn P' R' t width ∙ last (dec_lt t (r P')) turn)

    group_back : group P' R' t ≡ part
    group_back = ext_get_or 0 (group P' R' t) part (length_group P' R' t width ∙ sym length_part) λ i h.
        let k : i < group_length P' = rw (length_group P' R' t width) at h in
        at_group i k ∙ sym (at_part i k)

  pub bytes_back : run_length J.program ≤ length bs → run_bytes J.program (run_of J.program bs) ≡ take (run_length J.program) bs
  unfolding run_bytes part
  bytes_back room = each_same (suc (r P')) _ _ (λ t l. group_back t (omega arith) room) ∙ sym (take_rows bs (group_length P') (suc (r P')))
