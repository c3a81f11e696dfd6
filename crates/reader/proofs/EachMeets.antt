-- The machine code of each function on a held payload meets every contract, in the logic's own terms, that follows from its answer: `LentRead`, `MadeThenLent`, `PassedOn` and `NewThenPassedOn` of the code
-- itself. The contract c may bind ghosts, ask for more and say assertions; what is to be shown is its `ensures` at the one answer, and for a lent reader at the one reader after it.
use mathlib.Core.Path.{◌≡◌, sym, subst, ◌∙◌}
use mathlib.Core.List.{[], ◌∷◌}
use Prim.Native.Nat.{ℕ, ◌<◌, ◌^◌, ◌*◌}
use lib.ListN.{length}
use mir.Syntax.{w64, a_number, Args as Sizes}
use mir.Val.{Fits}
use native.Mathlib.Omega.{arith}
use base.Fml.{Lft}
use contract.BorrowLft.{◌⊑◌, ⊑_static}
use contract.Monad.{fact, fact_i}
use denote.Builtin.{u8}
use prog.Memory.{size}
use denote.Param.{number, layout, layouts, param, ArrayAt}
use seplogic.Ra.Ura.{Ura}
use base.Logic.{ent, emp, sep, via, id⊢}
use types.Logic.{Logic}
use prog.Model.{Model}
use prog.Wired.{Wired}
use contract.Lifetimes.{Lfts}
use contract.Running.{Running}
use denote.Triple.Entry.{Args}
use denote.Triple.Spec.{Meets}
use denote.Triple.Clauses.{Clauses, at_exit, closing}
use denote.Triple.Table.{run_framed}
use Rattle.reader.specs.contracts.Reader.read_u8 as read_u8
use Rattle.reader.proofs.Reader.read_u8.Symbol as read_u8_code
use Rattle.reader.proofs.Reader.read_u8.Met as read_u8_met
use Rattle.reader.specs.contracts.Reader.read_u16_le as read_u16_le
use Rattle.reader.proofs.Reader.read_u16_le.Symbol as read_u16_le_code
use Rattle.reader.proofs.Reader.read_u16_le.Met as read_u16_le_met
use Rattle.reader.specs.contracts.Reader.read_u32_le as read_u32_le
use Rattle.reader.proofs.Reader.read_u32_le.Symbol as read_u32_le_code
use Rattle.reader.proofs.Reader.read_u32_le.Met as read_u32_le_met
use Rattle.reader.specs.contracts.Reader.read_u64_le as read_u64_le
use Rattle.reader.proofs.Reader.read_u64_le.Symbol as read_u64_le_code
use Rattle.reader.proofs.Reader.read_u64_le.Met as read_u64_le_met
use Rattle.reader.specs.contracts.Reader.read_array as read_array
use Rattle.reader.proofs.Reader.read_array.Symbol as read_array_code
use Rattle.reader.proofs.Reader.read_array.Met as read_array_met
use Rattle.reader.specs.contracts.Reader.remaining as remaining
use Rattle.reader.proofs.Reader.remaining.Symbol as remaining_code
use Rattle.reader.proofs.Reader.remaining.Met as remaining_met
use Rattle.reader.specs.contracts.Reader.decode_sender_report as decode_sender_report
use Rattle.reader.proofs.Reader.decode_sender_report.Symbol as decode_sender_report_code
use Rattle.reader.proofs.Reader.decode_sender_report.Met as decode_sender_report_met
use Rattle.reader.specs.contracts.Reader.decode_receiver_report as decode_receiver_report
use Rattle.reader.proofs.Reader.decode_receiver_report.Symbol as decode_receiver_report_code
use Rattle.reader.proofs.Reader.decode_receiver_report.Met as decode_receiver_report_met
use Rattle.reader.specs.contracts.reads.read_u8_at as read_u8_at
use Rattle.reader.proofs.reads.read_u8_at.Symbol as read_u8_at_code
use Rattle.reader.proofs.reads.read_u8_at.Met as read_u8_at_met
use Rattle.reader.specs.contracts.reads.read_u16_le_at as read_u16_le_at
use Rattle.reader.proofs.reads.read_u16_le_at.Symbol as read_u16_le_at_code
use Rattle.reader.proofs.reads.read_u16_le_at.Met as read_u16_le_at_met
use Rattle.reader.specs.contracts.reads.read_u32_le_at as read_u32_le_at
use Rattle.reader.proofs.reads.read_u32_le_at.Symbol as read_u32_le_at_code
use Rattle.reader.proofs.reads.read_u32_le_at.Met as read_u32_le_at_met
use Rattle.reader.specs.contracts.reads.read_u64_le_at as read_u64_le_at
use Rattle.reader.proofs.reads.read_u64_le_at.Symbol as read_u64_le_at_code
use Rattle.reader.proofs.reads.read_u64_le_at.Met as read_u64_le_at_met
use Rattle.reader.specs.contracts.reads.read_array_at as read_array_at
use Rattle.reader.proofs.reads.read_array_at.Symbol as read_array_at_code
use Rattle.reader.proofs.reads.read_array_at.Met as read_array_at_met
use Rattle.reader.specs.contracts.reads.remaining as new_remaining
use Rattle.reader.proofs.reads.remaining.Symbol as new_remaining_code
use Rattle.reader.proofs.reads.remaining.Met as new_remaining_met
use Rattle.reader.specs.contracts.reports.decode_sender_report as new_decode_sender_report
use Rattle.reader.proofs.reports.decode_sender_report.Symbol as new_decode_sender_report_code
use Rattle.reader.proofs.reports.decode_sender_report.Met as new_decode_sender_report_met
use Rattle.reader.specs.contracts.reports.decode_receiver_report as new_decode_receiver_report
use Rattle.reader.proofs.reports.decode_receiver_report.Symbol as new_decode_receiver_report_code
use Rattle.reader.proofs.reports.decode_receiver_report.Met as new_decode_receiver_report_met
use Rattle.wire.specs.SenderReport as SenderReportSpec
use Rattle.wire.specs.ReceiverReport as ReceiverReportSpec
use Rattle.reader.specs.declared.Reader.{Reader}
use Rattle.reader.proofs.LentRead as Lent
use Rattle.reader.proofs.PassedOn as Passed
use Rattle.reader.proofs.MadeThenLent.{made}
use Rattle.reader.proofs.EachRead.{of_u8, of_u16, of_u32, of_u64, of_array}
use Rattle.reader.proofs.Questions.{bytes_left, sender_report, receiver_report, from_start}
use Rattle.reader.proofs.Beside.{beside}
use Rattle.reader.proofs.EveryContract as every

-- how many bytes a read of bytes takes, as its function is named by it
abbrev sized : ℕ → Sizes
sized n = layouts (a_number ∷ []) (number n, tt)

-- a count below 2^63 fits a usize, and what the contract of such a read asks for is granted: its bytes have a size
fitting : (n : ℕ) → n < 2 ^ 63 → Fits w64 n
fitting n h = record { fits = omega arith }

granted :
    {M : Type 1} (𝓤 : Ura M) {κ : Lft} → κ ⊑ [] → (n : ℕ) → n < 2 ^ 63 →
    ent 𝓤 (emp 𝓤) (sep 𝓤 (fact 𝓤 (κ ⊑ [])) (sep 𝓤 (fact 𝓤 (size (layout (ArrayAt u8 (param 0 (number n)))) < 2 ^ 63)) (emp 𝓤)))
granted 𝓤 {κ} static n h =
    via 𝓤 (fact 𝓤 (κ ⊑ [])) (fact_i 𝓤 (κ ⊑ []) (emp 𝓤) static)
    (beside 𝓤 (fact 𝓤 (κ ⊑ [])) (sep 𝓤 (fact 𝓤 (size (layout (ArrayAt u8 (param 0 (number n)))) < 2 ^ 63)) (emp 𝓤))
    (via 𝓤 (fact 𝓤 (size (layout (ArrayAt u8 (param 0 (number n)))) < 2 ^ 63)) (fact_i 𝓤 (size (layout (ArrayAt u8 (param 0 (number n)))) < 2 ^ 63) (emp 𝓤) (let k : n * 1 ≡ n = omega arith in omega (arith, k)))
    (beside 𝓤 (fact 𝓤 (size (layout (ArrayAt u8 (param 0 (number n)))) < 2 ^ 63)) (emp 𝓤) (id⊢ 𝓤 (emp 𝓤)))))

-- ---- a lent reader: `LentRead`
abbrev pub read_u8_shown : {M : Type 1} (𝓤 : Ura M) → Clauses 𝓤 read_u8.ended → Type 1
read_u8_shown 𝓤 c =
    (κs : Lfts 2) (a : Args read_u8.signature κs) (g : (c κs a).ghost) →
    ent 𝓤 (emp 𝓤) ((c κs a).ensures g (Lent.found of_u8 a.0.now) (at_exit read_u8.ended κs a (Lent.left of_u8 a.0.now, tt)))

pub read_u8_meets :
    {M : Type 1} (𝓤 : Ura M) (𝓛 : Logic 𝓤) (𝓜 : Model 𝓤 𝓛.H) (𝓡 : Running 𝓤 𝓛.H 𝓜) → Wired 𝓡.env read_u8_code.code →
    (c : Clauses 𝓤 read_u8.ended) → read_u8_shown 𝓤 c → Meets 𝓛 read_u8.signature (𝓡.run (𝓡.env read_u8_code.name)) (closing 𝓛 read_u8.ended c)
read_u8_meets 𝓤 𝓛 𝓜 𝓡 wired c shown =
    every.meets 𝓛 read_u8.ended (λ κs a r e. Lent.Says of_u8 a.0.now r e.0.now) c
    (λ κs a g r ws says.
    subst (λ (h : Reader). ent 𝓤 (emp 𝓤) ((c κs a).ensures g r (at_exit read_u8.ended κs a (h, tt)))) (sym says.1)
    (subst (λ x. ent 𝓤 (emp 𝓤) ((c κs a).ensures g x (at_exit read_u8.ended κs a (Lent.left of_u8 a.0.now, tt)))) (sym says.0) (shown κs a g)))
    (𝓡.run (𝓡.env read_u8_code.name)) (run_framed 𝓤 𝓛.H 𝓜 𝓡 (𝓡.env read_u8_code.name)) (read_u8_met.met 𝓤 𝓛 𝓜 𝓡 wired)

abbrev pub read_u16_le_shown : {M : Type 1} (𝓤 : Ura M) → Clauses 𝓤 read_u16_le.ended → Type 1
read_u16_le_shown 𝓤 c =
    (κs : Lfts 2) (a : Args read_u16_le.signature κs) (g : (c κs a).ghost) →
    ent 𝓤 (emp 𝓤) ((c κs a).ensures g (Lent.found of_u16 a.0.now) (at_exit read_u16_le.ended κs a (Lent.left of_u16 a.0.now, tt)))

pub read_u16_le_meets :
    {M : Type 1} (𝓤 : Ura M) (𝓛 : Logic 𝓤) (𝓜 : Model 𝓤 𝓛.H) (𝓡 : Running 𝓤 𝓛.H 𝓜) → Wired 𝓡.env read_u16_le_code.code →
    (c : Clauses 𝓤 read_u16_le.ended) → read_u16_le_shown 𝓤 c → Meets 𝓛 read_u16_le.signature (𝓡.run (𝓡.env read_u16_le_code.name)) (closing 𝓛 read_u16_le.ended c)
read_u16_le_meets 𝓤 𝓛 𝓜 𝓡 wired c shown =
    every.meets 𝓛 read_u16_le.ended (λ κs a r e. Lent.Says of_u16 a.0.now r e.0.now) c
    (λ κs a g r ws says.
    subst (λ (h : Reader). ent 𝓤 (emp 𝓤) ((c κs a).ensures g r (at_exit read_u16_le.ended κs a (h, tt)))) (sym says.1)
    (subst (λ x. ent 𝓤 (emp 𝓤) ((c κs a).ensures g x (at_exit read_u16_le.ended κs a (Lent.left of_u16 a.0.now, tt)))) (sym says.0) (shown κs a g)))
    (𝓡.run (𝓡.env read_u16_le_code.name)) (run_framed 𝓤 𝓛.H 𝓜 𝓡 (𝓡.env read_u16_le_code.name)) (read_u16_le_met.met 𝓤 𝓛 𝓜 𝓡 wired)

abbrev pub read_u32_le_shown : {M : Type 1} (𝓤 : Ura M) → Clauses 𝓤 read_u32_le.ended → Type 1
read_u32_le_shown 𝓤 c =
    (κs : Lfts 2) (a : Args read_u32_le.signature κs) (g : (c κs a).ghost) →
    ent 𝓤 (emp 𝓤) ((c κs a).ensures g (Lent.found of_u32 a.0.now) (at_exit read_u32_le.ended κs a (Lent.left of_u32 a.0.now, tt)))

pub read_u32_le_meets :
    {M : Type 1} (𝓤 : Ura M) (𝓛 : Logic 𝓤) (𝓜 : Model 𝓤 𝓛.H) (𝓡 : Running 𝓤 𝓛.H 𝓜) → Wired 𝓡.env read_u32_le_code.code →
    (c : Clauses 𝓤 read_u32_le.ended) → read_u32_le_shown 𝓤 c → Meets 𝓛 read_u32_le.signature (𝓡.run (𝓡.env read_u32_le_code.name)) (closing 𝓛 read_u32_le.ended c)
read_u32_le_meets 𝓤 𝓛 𝓜 𝓡 wired c shown =
    every.meets 𝓛 read_u32_le.ended (λ κs a r e. Lent.Says of_u32 a.0.now r e.0.now) c
    (λ κs a g r ws says.
    subst (λ (h : Reader). ent 𝓤 (emp 𝓤) ((c κs a).ensures g r (at_exit read_u32_le.ended κs a (h, tt)))) (sym says.1)
    (subst (λ x. ent 𝓤 (emp 𝓤) ((c κs a).ensures g x (at_exit read_u32_le.ended κs a (Lent.left of_u32 a.0.now, tt)))) (sym says.0) (shown κs a g)))
    (𝓡.run (𝓡.env read_u32_le_code.name)) (run_framed 𝓤 𝓛.H 𝓜 𝓡 (𝓡.env read_u32_le_code.name)) (read_u32_le_met.met 𝓤 𝓛 𝓜 𝓡 wired)

abbrev pub read_u64_le_shown : {M : Type 1} (𝓤 : Ura M) → Clauses 𝓤 read_u64_le.ended → Type 1
read_u64_le_shown 𝓤 c =
    (κs : Lfts 2) (a : Args read_u64_le.signature κs) (g : (c κs a).ghost) →
    ent 𝓤 (emp 𝓤) ((c κs a).ensures g (Lent.found of_u64 a.0.now) (at_exit read_u64_le.ended κs a (Lent.left of_u64 a.0.now, tt)))

pub read_u64_le_meets :
    {M : Type 1} (𝓤 : Ura M) (𝓛 : Logic 𝓤) (𝓜 : Model 𝓤 𝓛.H) (𝓡 : Running 𝓤 𝓛.H 𝓜) → Wired 𝓡.env read_u64_le_code.code →
    (c : Clauses 𝓤 read_u64_le.ended) → read_u64_le_shown 𝓤 c → Meets 𝓛 read_u64_le.signature (𝓡.run (𝓡.env read_u64_le_code.name)) (closing 𝓛 read_u64_le.ended c)
read_u64_le_meets 𝓤 𝓛 𝓜 𝓡 wired c shown =
    every.meets 𝓛 read_u64_le.ended (λ κs a r e. Lent.Says of_u64 a.0.now r e.0.now) c
    (λ κs a g r ws says.
    subst (λ (h : Reader). ent 𝓤 (emp 𝓤) ((c κs a).ensures g r (at_exit read_u64_le.ended κs a (h, tt)))) (sym says.1)
    (subst (λ x. ent 𝓤 (emp 𝓤) ((c κs a).ensures g x (at_exit read_u64_le.ended κs a (Lent.left of_u64 a.0.now, tt)))) (sym says.0) (shown κs a g)))
    (𝓡.run (𝓡.env read_u64_le_code.name)) (run_framed 𝓤 𝓛.H 𝓜 𝓡 (𝓡.env read_u64_le_code.name)) (read_u64_le_met.met 𝓤 𝓛 𝓜 𝓡 wired)

abbrev pub read_array_shown : {M : Type 1} (𝓤 : Ura M) (n : ℕ) → Clauses 𝓤 (read_array.ended (number n)) → Type 1
read_array_shown 𝓤 n c =
    (κs : Lfts 3) (a : Args (read_array.signature (number n)) κs) (g : (c κs a).ghost) →
    ent 𝓤 (emp 𝓤) ((c κs a).ensures g (Lent.found (of_array n) a.0.now) (at_exit (read_array.ended (number n)) κs a (Lent.left (of_array n) a.0.now, tt)))

pub read_array_meets :
    {M : Type 1} (𝓤 : Ura M) (𝓛 : Logic 𝓤) (𝓜 : Model 𝓤 𝓛.H) (𝓡 : Running 𝓤 𝓛.H 𝓜) → Wired 𝓡.env read_array_code.code → (n : ℕ) → n < 2 ^ 63 →
    (c : Clauses 𝓤 (read_array.ended (number n))) → read_array_shown 𝓤 n c → Meets 𝓛 (read_array.signature (number n)) (𝓡.run (𝓡.env (read_array_code.name (sized n)))) (closing 𝓛 (read_array.ended (number n)) c)
read_array_meets 𝓤 𝓛 𝓜 𝓡 wired n h c shown =
    every.meets_granted 𝓛 (read_array.ended (number n))
    (λ κs a. (read_array.clauses (number n) 𝓛 𝓜.mem 𝓡.returns κs a).requires tt) (λ κs a. granted 𝓤 (⊑_static _) n h) (λ κs a r e. Lent.Says (of_array n) a.0.now r e.0.now) c
    (λ κs a g r ws says.
    subst (λ (h : Reader). ent 𝓤 (emp 𝓤) ((c κs a).ensures g r (at_exit (read_array.ended (number n)) κs a (h, tt)))) (sym says.1)
    (subst (λ x. ent 𝓤 (emp 𝓤) ((c κs a).ensures g x (at_exit (read_array.ended (number n)) κs a (Lent.left (of_array n) a.0.now, tt)))) (sym says.0) (shown κs a g)))
    (𝓡.run (𝓡.env (read_array_code.name (sized n)))) (run_framed 𝓤 𝓛.H 𝓜 𝓡 (𝓡.env (read_array_code.name (sized n)))) (read_array_met.met 𝓤 𝓛 𝓜 𝓡 wired n (fitting n h))

-- ---- a reader by value: `PassedOn`
abbrev pub remaining_shown : {M : Type 1} (𝓤 : Ura M) → Clauses 𝓤 remaining.ended → Type 1
remaining_shown 𝓤 c = (κs : Lfts 1) (a : Args remaining.signature κs) (g : (c κs a).ghost) → ent 𝓤 (emp 𝓤) ((c κs a).ensures g (Passed.found bytes_left a.0) (at_exit remaining.ended κs a (tt, tt)))

pub remaining_meets :
    {M : Type 1} (𝓤 : Ura M) (𝓛 : Logic 𝓤) (𝓜 : Model 𝓤 𝓛.H) (𝓡 : Running 𝓤 𝓛.H 𝓜) → Wired 𝓡.env remaining_code.code →
    (c : Clauses 𝓤 remaining.ended) → remaining_shown 𝓤 c → Meets 𝓛 remaining.signature (𝓡.run (𝓡.env remaining_code.name)) (closing 𝓛 remaining.ended c)
remaining_meets 𝓤 𝓛 𝓜 𝓡 wired c shown =
    every.meets 𝓛 remaining.ended (λ κs a r e. r ≡ Passed.found bytes_left a.0) c
    (λ κs a g r ws says. subst (λ x. ent 𝓤 (emp 𝓤) ((c κs a).ensures g x (at_exit remaining.ended κs a (tt, tt)))) (sym says) (shown κs a g))
    (𝓡.run (𝓡.env remaining_code.name)) (run_framed 𝓤 𝓛.H 𝓜 𝓡 (𝓡.env remaining_code.name)) (remaining_met.met 𝓤 𝓛 𝓜 𝓡 wired)

abbrev pub decode_sender_report_shown : {M : Type 1} (𝓤 : Ura M) → Clauses 𝓤 decode_sender_report.ended → Type 1
decode_sender_report_shown 𝓤 c = (κs : Lfts 1) (a : Args decode_sender_report.signature κs) (g : (c κs a).ghost) → ent 𝓤 (emp 𝓤) ((c κs a).ensures g (Passed.found sender_report a.0) (at_exit decode_sender_report.ended κs a (tt, tt)))

pub decode_sender_report_meets :
    {M : Type 1} (𝓤 : Ura M) (𝓛 : Logic 𝓤) (𝓜 : Model 𝓤 𝓛.H) (𝓡 : Running 𝓤 𝓛.H 𝓜) → Wired 𝓡.env decode_sender_report_code.code →
    (c : Clauses 𝓤 decode_sender_report.ended) → decode_sender_report_shown 𝓤 c → Meets 𝓛 decode_sender_report.signature (𝓡.run (𝓡.env decode_sender_report_code.name)) (closing 𝓛 decode_sender_report.ended c)
decode_sender_report_meets 𝓤 𝓛 𝓜 𝓡 wired c shown =
    every.meets 𝓛 decode_sender_report.ended (λ κs a r e. r ≡ Passed.found sender_report a.0) c
    (λ κs a g r ws says. subst (λ x. ent 𝓤 (emp 𝓤) ((c κs a).ensures g x (at_exit decode_sender_report.ended κs a (tt, tt)))) (sym says) (shown κs a g))
    (𝓡.run (𝓡.env decode_sender_report_code.name)) (run_framed 𝓤 𝓛.H 𝓜 𝓡 (𝓡.env decode_sender_report_code.name)) (decode_sender_report_met.met 𝓤 𝓛 𝓜 𝓡 wired)

abbrev pub decode_receiver_report_shown : {M : Type 1} (𝓤 : Ura M) → Clauses 𝓤 decode_receiver_report.ended → Type 1
decode_receiver_report_shown 𝓤 c = (κs : Lfts 1) (a : Args decode_receiver_report.signature κs) (g : (c κs a).ghost) → ent 𝓤 (emp 𝓤) ((c κs a).ensures g (Passed.found receiver_report a.0) (at_exit decode_receiver_report.ended κs a (tt, tt)))

pub decode_receiver_report_meets :
    {M : Type 1} (𝓤 : Ura M) (𝓛 : Logic 𝓤) (𝓜 : Model 𝓤 𝓛.H) (𝓡 : Running 𝓤 𝓛.H 𝓜) → Wired 𝓡.env decode_receiver_report_code.code →
    (c : Clauses 𝓤 decode_receiver_report.ended) → decode_receiver_report_shown 𝓤 c → Meets 𝓛 decode_receiver_report.signature (𝓡.run (𝓡.env decode_receiver_report_code.name)) (closing 𝓛 decode_receiver_report.ended c)
decode_receiver_report_meets 𝓤 𝓛 𝓜 𝓡 wired c shown =
    every.meets 𝓛 decode_receiver_report.ended (λ κs a r e. r ≡ Passed.found receiver_report a.0) c
    (λ κs a g r ws says. subst (λ x. ent 𝓤 (emp 𝓤) ((c κs a).ensures g x (at_exit decode_receiver_report.ended κs a (tt, tt)))) (sym says) (shown κs a g))
    (𝓡.run (𝓡.env decode_receiver_report_code.name)) (run_framed 𝓤 𝓛.H 𝓜 𝓡 (𝓡.env decode_receiver_report_code.name)) (decode_receiver_report_met.met 𝓤 𝓛 𝓜 𝓡 wired)

-- ---- a reader made at a position and lent: `MadeThenLent`
abbrev pub read_u8_at_shown : {M : Type 1} (𝓤 : Ura M) → Clauses 𝓤 read_u8_at.ended → Type 1
read_u8_at_shown 𝓤 c = (κs : Lfts 1) (a : Args read_u8_at.signature κs) (g : (c κs a).ghost) → ent 𝓤 (emp 𝓤) ((c κs a).ensures g (Lent.whole of_u8 (made a.0 a.1.0)) (at_exit read_u8_at.ended κs a (tt, (tt, tt))))

pub read_u8_at_meets :
    {M : Type 1} (𝓤 : Ura M) (𝓛 : Logic 𝓤) (𝓜 : Model 𝓤 𝓛.H) (𝓡 : Running 𝓤 𝓛.H 𝓜) → Wired 𝓡.env read_u8_at_code.code →
    (c : Clauses 𝓤 read_u8_at.ended) → read_u8_at_shown 𝓤 c → Meets 𝓛 read_u8_at.signature (𝓡.run (𝓡.env read_u8_at_code.name)) (closing 𝓛 read_u8_at.ended c)
read_u8_at_meets 𝓤 𝓛 𝓜 𝓡 wired c shown =
    every.meets 𝓛 read_u8_at.ended (λ κs a r e. r ≡ Lent.whole of_u8 (made a.0 a.1.0)) c
    (λ κs a g r ws says. subst (λ x. ent 𝓤 (emp 𝓤) ((c κs a).ensures g x (at_exit read_u8_at.ended κs a (tt, (tt, tt))))) (sym says) (shown κs a g))
    (𝓡.run (𝓡.env read_u8_at_code.name)) (run_framed 𝓤 𝓛.H 𝓜 𝓡 (𝓡.env read_u8_at_code.name)) (read_u8_at_met.met 𝓤 𝓛 𝓜 𝓡 wired)

abbrev pub read_u16_le_at_shown : {M : Type 1} (𝓤 : Ura M) → Clauses 𝓤 read_u16_le_at.ended → Type 1
read_u16_le_at_shown 𝓤 c = (κs : Lfts 1) (a : Args read_u16_le_at.signature κs) (g : (c κs a).ghost) → ent 𝓤 (emp 𝓤) ((c κs a).ensures g (Lent.whole of_u16 (made a.0 a.1.0)) (at_exit read_u16_le_at.ended κs a (tt, (tt, tt))))

pub read_u16_le_at_meets :
    {M : Type 1} (𝓤 : Ura M) (𝓛 : Logic 𝓤) (𝓜 : Model 𝓤 𝓛.H) (𝓡 : Running 𝓤 𝓛.H 𝓜) → Wired 𝓡.env read_u16_le_at_code.code →
    (c : Clauses 𝓤 read_u16_le_at.ended) → read_u16_le_at_shown 𝓤 c → Meets 𝓛 read_u16_le_at.signature (𝓡.run (𝓡.env read_u16_le_at_code.name)) (closing 𝓛 read_u16_le_at.ended c)
read_u16_le_at_meets 𝓤 𝓛 𝓜 𝓡 wired c shown =
    every.meets 𝓛 read_u16_le_at.ended (λ κs a r e. r ≡ Lent.whole of_u16 (made a.0 a.1.0)) c
    (λ κs a g r ws says. subst (λ x. ent 𝓤 (emp 𝓤) ((c κs a).ensures g x (at_exit read_u16_le_at.ended κs a (tt, (tt, tt))))) (sym says) (shown κs a g))
    (𝓡.run (𝓡.env read_u16_le_at_code.name)) (run_framed 𝓤 𝓛.H 𝓜 𝓡 (𝓡.env read_u16_le_at_code.name)) (read_u16_le_at_met.met 𝓤 𝓛 𝓜 𝓡 wired)

abbrev pub read_u32_le_at_shown : {M : Type 1} (𝓤 : Ura M) → Clauses 𝓤 read_u32_le_at.ended → Type 1
read_u32_le_at_shown 𝓤 c = (κs : Lfts 1) (a : Args read_u32_le_at.signature κs) (g : (c κs a).ghost) → ent 𝓤 (emp 𝓤) ((c κs a).ensures g (Lent.whole of_u32 (made a.0 a.1.0)) (at_exit read_u32_le_at.ended κs a (tt, (tt, tt))))

pub read_u32_le_at_meets :
    {M : Type 1} (𝓤 : Ura M) (𝓛 : Logic 𝓤) (𝓜 : Model 𝓤 𝓛.H) (𝓡 : Running 𝓤 𝓛.H 𝓜) → Wired 𝓡.env read_u32_le_at_code.code →
    (c : Clauses 𝓤 read_u32_le_at.ended) → read_u32_le_at_shown 𝓤 c → Meets 𝓛 read_u32_le_at.signature (𝓡.run (𝓡.env read_u32_le_at_code.name)) (closing 𝓛 read_u32_le_at.ended c)
read_u32_le_at_meets 𝓤 𝓛 𝓜 𝓡 wired c shown =
    every.meets 𝓛 read_u32_le_at.ended (λ κs a r e. r ≡ Lent.whole of_u32 (made a.0 a.1.0)) c
    (λ κs a g r ws says. subst (λ x. ent 𝓤 (emp 𝓤) ((c κs a).ensures g x (at_exit read_u32_le_at.ended κs a (tt, (tt, tt))))) (sym says) (shown κs a g))
    (𝓡.run (𝓡.env read_u32_le_at_code.name)) (run_framed 𝓤 𝓛.H 𝓜 𝓡 (𝓡.env read_u32_le_at_code.name)) (read_u32_le_at_met.met 𝓤 𝓛 𝓜 𝓡 wired)

abbrev pub read_u64_le_at_shown : {M : Type 1} (𝓤 : Ura M) → Clauses 𝓤 read_u64_le_at.ended → Type 1
read_u64_le_at_shown 𝓤 c = (κs : Lfts 1) (a : Args read_u64_le_at.signature κs) (g : (c κs a).ghost) → ent 𝓤 (emp 𝓤) ((c κs a).ensures g (Lent.whole of_u64 (made a.0 a.1.0)) (at_exit read_u64_le_at.ended κs a (tt, (tt, tt))))

pub read_u64_le_at_meets :
    {M : Type 1} (𝓤 : Ura M) (𝓛 : Logic 𝓤) (𝓜 : Model 𝓤 𝓛.H) (𝓡 : Running 𝓤 𝓛.H 𝓜) → Wired 𝓡.env read_u64_le_at_code.code →
    (c : Clauses 𝓤 read_u64_le_at.ended) → read_u64_le_at_shown 𝓤 c → Meets 𝓛 read_u64_le_at.signature (𝓡.run (𝓡.env read_u64_le_at_code.name)) (closing 𝓛 read_u64_le_at.ended c)
read_u64_le_at_meets 𝓤 𝓛 𝓜 𝓡 wired c shown =
    every.meets 𝓛 read_u64_le_at.ended (λ κs a r e. r ≡ Lent.whole of_u64 (made a.0 a.1.0)) c
    (λ κs a g r ws says. subst (λ x. ent 𝓤 (emp 𝓤) ((c κs a).ensures g x (at_exit read_u64_le_at.ended κs a (tt, (tt, tt))))) (sym says) (shown κs a g))
    (𝓡.run (𝓡.env read_u64_le_at_code.name)) (run_framed 𝓤 𝓛.H 𝓜 𝓡 (𝓡.env read_u64_le_at_code.name)) (read_u64_le_at_met.met 𝓤 𝓛 𝓜 𝓡 wired)

abbrev pub read_array_at_shown : {M : Type 1} (𝓤 : Ura M) (n : ℕ) → Clauses 𝓤 (read_array_at.ended (number n)) → Type 1
read_array_at_shown 𝓤 n c = (κs : Lfts 2) (a : Args (read_array_at.signature (number n)) κs) (g : (c κs a).ghost) → ent 𝓤 (emp 𝓤) ((c κs a).ensures g (Lent.whole (of_array n) (made a.0 a.1.0)) (at_exit (read_array_at.ended (number n)) κs a (tt, (tt, tt))))

pub read_array_at_meets :
    {M : Type 1} (𝓤 : Ura M) (𝓛 : Logic 𝓤) (𝓜 : Model 𝓤 𝓛.H) (𝓡 : Running 𝓤 𝓛.H 𝓜) → Wired 𝓡.env read_array_at_code.code → (n : ℕ) → n < 2 ^ 63 →
    (c : Clauses 𝓤 (read_array_at.ended (number n))) → read_array_at_shown 𝓤 n c → Meets 𝓛 (read_array_at.signature (number n)) (𝓡.run (𝓡.env (read_array_at_code.name (sized n)))) (closing 𝓛 (read_array_at.ended (number n)) c)
read_array_at_meets 𝓤 𝓛 𝓜 𝓡 wired n h c shown =
    every.meets_granted 𝓛 (read_array_at.ended (number n))
    (λ κs a. (read_array_at.clauses (number n) 𝓛 𝓜.mem 𝓡.returns κs a).requires tt) (λ κs a. granted 𝓤 (⊑_static _) n h) (λ κs a r e. r ≡ Lent.whole (of_array n) (made a.0 a.1.0)) c
    (λ κs a g r ws says. subst (λ x. ent 𝓤 (emp 𝓤) ((c κs a).ensures g x (at_exit (read_array_at.ended (number n)) κs a (tt, (tt, tt))))) (sym says) (shown κs a g))
    (𝓡.run (𝓡.env (read_array_at_code.name (sized n)))) (run_framed 𝓤 𝓛.H 𝓜 𝓡 (𝓡.env (read_array_at_code.name (sized n)))) (read_array_at_met.met 𝓤 𝓛 𝓜 𝓡 wired n (fitting n h))

-- ---- a new reader that is asked: `NewThenPassedOn`
abbrev pub new_remaining_shown : {M : Type 1} (𝓤 : Ura M) → Clauses 𝓤 new_remaining.ended → Type 1
new_remaining_shown 𝓤 c = (κs : Lfts 1) (a : Args new_remaining.signature κs) (g : (c κs a).ghost) → ent 𝓤 (emp 𝓤) ((c κs a).ensures g (bytes_left.answer a.0.now 0) (at_exit new_remaining.ended κs a (tt, tt)))

pub new_remaining_meets :
    {M : Type 1} (𝓤 : Ura M) (𝓛 : Logic 𝓤) (𝓜 : Model 𝓤 𝓛.H) (𝓡 : Running 𝓤 𝓛.H 𝓜) → Wired 𝓡.env new_remaining_code.code →
    (c : Clauses 𝓤 new_remaining.ended) → new_remaining_shown 𝓤 c → Meets 𝓛 new_remaining.signature (𝓡.run (𝓡.env new_remaining_code.name)) (closing 𝓛 new_remaining.ended c)
new_remaining_meets 𝓤 𝓛 𝓜 𝓡 wired c shown =
    every.meets 𝓛 new_remaining.ended (λ κs a r e. r ≡ length a.0.now) c
    (λ κs a g r ws says. subst (λ x. ent 𝓤 (emp 𝓤) ((c κs a).ensures g x (at_exit new_remaining.ended κs a (tt, tt)))) (from_start a.0.now ∙ sym says) (shown κs a g))
    (𝓡.run (𝓡.env new_remaining_code.name)) (run_framed 𝓤 𝓛.H 𝓜 𝓡 (𝓡.env new_remaining_code.name)) (new_remaining_met.met 𝓤 𝓛 𝓜 𝓡 wired)

abbrev pub new_decode_sender_report_shown : {M : Type 1} (𝓤 : Ura M) → Clauses 𝓤 new_decode_sender_report.ended → Type 1
new_decode_sender_report_shown 𝓤 c = (κs : Lfts 1) (a : Args new_decode_sender_report.signature κs) (g : (c κs a).ghost) → ent 𝓤 (emp 𝓤) ((c κs a).ensures g (sender_report.answer a.0.now 0) (at_exit new_decode_sender_report.ended κs a (tt, tt)))

pub new_decode_sender_report_meets :
    {M : Type 1} (𝓤 : Ura M) (𝓛 : Logic 𝓤) (𝓜 : Model 𝓤 𝓛.H) (𝓡 : Running 𝓤 𝓛.H 𝓜) → Wired 𝓡.env new_decode_sender_report_code.code →
    (c : Clauses 𝓤 new_decode_sender_report.ended) → new_decode_sender_report_shown 𝓤 c → Meets 𝓛 new_decode_sender_report.signature (𝓡.run (𝓡.env new_decode_sender_report_code.name)) (closing 𝓛 new_decode_sender_report.ended c)
unfolding SenderReportSpec.decoded SenderReportSpec.decoded_at
new_decode_sender_report_meets 𝓤 𝓛 𝓜 𝓡 wired c shown =
    every.meets 𝓛 new_decode_sender_report.ended (λ κs a r e. r ≡ sender_report.answer a.0.now 0) c
    (λ κs a g r ws says. subst (λ x. ent 𝓤 (emp 𝓤) ((c κs a).ensures g x (at_exit new_decode_sender_report.ended κs a (tt, tt)))) (sym says) (shown κs a g))
    (𝓡.run (𝓡.env new_decode_sender_report_code.name)) (run_framed 𝓤 𝓛.H 𝓜 𝓡 (𝓡.env new_decode_sender_report_code.name)) (new_decode_sender_report_met.met 𝓤 𝓛 𝓜 𝓡 wired)

abbrev pub new_decode_receiver_report_shown : {M : Type 1} (𝓤 : Ura M) → Clauses 𝓤 new_decode_receiver_report.ended → Type 1
new_decode_receiver_report_shown 𝓤 c = (κs : Lfts 1) (a : Args new_decode_receiver_report.signature κs) (g : (c κs a).ghost) → ent 𝓤 (emp 𝓤) ((c κs a).ensures g (receiver_report.answer a.0.now 0) (at_exit new_decode_receiver_report.ended κs a (tt, tt)))

pub new_decode_receiver_report_meets :
    {M : Type 1} (𝓤 : Ura M) (𝓛 : Logic 𝓤) (𝓜 : Model 𝓤 𝓛.H) (𝓡 : Running 𝓤 𝓛.H 𝓜) → Wired 𝓡.env new_decode_receiver_report_code.code →
    (c : Clauses 𝓤 new_decode_receiver_report.ended) → new_decode_receiver_report_shown 𝓤 c → Meets 𝓛 new_decode_receiver_report.signature (𝓡.run (𝓡.env new_decode_receiver_report_code.name)) (closing 𝓛 new_decode_receiver_report.ended c)
unfolding ReceiverReportSpec.decoded ReceiverReportSpec.decoded_at
new_decode_receiver_report_meets 𝓤 𝓛 𝓜 𝓡 wired c shown =
    every.meets 𝓛 new_decode_receiver_report.ended (λ κs a r e. r ≡ receiver_report.answer a.0.now 0) c
    (λ κs a g r ws says. subst (λ x. ent 𝓤 (emp 𝓤) ((c κs a).ensures g x (at_exit new_decode_receiver_report.ended κs a (tt, tt)))) (sym says) (shown κs a g))
    (𝓡.run (𝓡.env new_decode_receiver_report_code.name)) (run_framed 𝓤 𝓛.H 𝓜 𝓡 (𝓡.env new_decode_receiver_report_code.name)) (new_decode_receiver_report_met.met 𝓤 𝓛 𝓜 𝓡 wired)
