-- A function that meets a contract of one fact meets every contract that follows from the fact: every one, with ghosts, a `requires` and assertions, and for whatever runs, so for the machine code of a
-- function. The rule of consequence of the logic, at contracts that read the parameters at exit.
use mir.Val.{Val}
use seplogic.Ra.Ura.{Ura}
use base.Logic.{SProp, ent, sep, ex, emp, wand, via, id⊢, snd∗, comm∗, emp∗, mono_l, mono_r, all_i, wand_i, ex_i, ex_e}
use types.Logic.{Logic, sem}
use contract.Lifetimes.{Lfts}
use contract.Monad.{Fun, fact, fact_use, top}
use denote.Triple.Entry.{Args, Res, on_entry}
use denote.Triple.Statement.{Contract, FmF, ask, ask_at, implied, then}
use denote.Triple.Spec.{Meets, Back, triple_of}
use denote.Triple.Clauses.{Ended, Clauses, AtExit, Lasts, lasts, at_exit, closing}

module _ {M : Type 1} {𝓤 : Ura M} (𝓛 : Logic 𝓤) (T : Ended) where
  -- a fact of the arguments, the result and the parameters at exit
  abbrev pub Fact : Type 1
  Fact = (κs : Lfts T.signature.lifetimes) → Args T.signature κs → Res T.signature κs → AtExit T κs → Type 0

  -- what a contract asks for of the arguments
  abbrev pub Asked : Type 2
  Asked = (κs : Lfts T.signature.lifetimes) → Args T.signature κs → SProp 𝓤

  -- what is granted whatever the arguments are
  abbrev pub Granted : Asked → Type 1
  Granted asks = (κs : Lfts T.signature.lifetimes) (a : Args T.signature κs) → ent 𝓤 (emp 𝓤) (asks κs a)

  -- the contract that says the fact, and one that asks for something first
  abbrev pub saying_asked : Asked → Fact → Clauses 𝓤 T
  saying_asked asks φ κs a = record { ghost = Unit {0}; requires = λ g. asks κs a; ensures = λ g r e. fact 𝓤 (φ κs a r e) }

  abbrev nothing : Asked
  nothing κs a = emp 𝓤

  abbrev pub saying : Fact → Clauses 𝓤 T
  saying φ = saying_asked nothing φ

  -- where the fact holds, the contract's `ensures` does
  abbrev pub Shown : Fact → Clauses 𝓤 T → Type 1
  Shown φ c =
      (κs : Lfts T.signature.lifetimes) (a : Args T.signature κs) (g : (c κs a).ghost) (r : Res T.signature κs) (ws : Lasts T κs a) → φ κs a r (at_exit T κs a ws) →
      ent 𝓤 (emp 𝓤) ((c κs a).ensures g r (at_exit T κs a ws))

  module _ (asks : Asked) (granted : Granted asks) (φ : Fact) (c : Clauses 𝓤 T) (shown : Shown φ c) where
    abbrev D : Contract 𝓤
    D = triple_of 𝓛 T.signature (closing 𝓛 T (saying_asked asks φ))

    abbrev C : Contract 𝓤
    C = triple_of 𝓛 T.signature (closing 𝓛 T c)

    module _ (y : C.Ghost) where
      abbrev x : D.Ghost
      x = (y.0, tt)

      abbrev L : Lasts T y.0.0 y.0.3 → SProp 𝓤
      L ws = sem 𝓛 (lasts T y.0.0 y.0.3 ws)

      abbrev Before : Res T.signature y.0.0 → SProp 𝓤
      Before r = ex 𝓤 (λ ws. sep 𝓤 (L ws) (fact 𝓤 (φ y.0.0 y.0.3 r (at_exit T y.0.0 y.0.3 ws))))

      abbrev After : Res T.signature y.0.0 → SProp 𝓤
      After r = ex 𝓤 (λ ws. sep 𝓤 (L ws) ((c y.0.0 y.0.3).ensures y.1 r (at_exit T y.0.0 y.0.3 ws)))

      -- a fact is used, and what follows stands in its place
      for_fact : (ψ : Type 0) (Q : SProp 𝓤) → (ψ → ent 𝓤 (emp 𝓤) Q) → ent 𝓤 (fact 𝓤 ψ) Q
      for_fact ψ Q h = fact_use 𝓤 ψ (id⊢ 𝓤 (fact 𝓤 ψ)) (λ p. via 𝓤 (emp 𝓤) (top 𝓤 (fact 𝓤 ψ)) (h p))

      said : (r : Res T.signature y.0.0) → ent 𝓤 (Before r) (After r)
      said r = ex_e 𝓤 (λ ws. sep 𝓤 (L ws) (fact 𝓤 (φ y.0.0 y.0.3 r (at_exit T y.0.0 y.0.3 ws)))) (λ ws.
          via 𝓤 (sep 𝓤 (L ws) ((c y.0.0 y.0.3).ensures y.1 r (at_exit T y.0.0 y.0.3 ws)))
          (mono_r 𝓤 (L ws) (for_fact (φ y.0.0 y.0.3 r (at_exit T y.0.0 y.0.3 ws)) ((c y.0.0 y.0.3).ensures y.1 r (at_exit T y.0.0 y.0.3 ws)) (λ p. shown y.0.0 y.0.3 y.1 r ws p)))
          (ex_i 𝓤 (λ us. sep 𝓤 (L us) ((c y.0.0 y.0.3).ensures y.1 r (at_exit T y.0.0 y.0.3 us))) ws))

      ends : (v : Val) → ent 𝓤 (D.post x v) (C.post y v)
      ends v = 𝓛.laws.⇛_mono _ _ (ex_e 𝓤 (λ (r : Res T.signature y.0.0). sep 𝓤 (Back 𝓛 T.signature y.0 v r) (Before r)) (λ r.
          via 𝓤 (sep 𝓤 (Back 𝓛 T.signature y.0 v r) (After r)) (mono_r 𝓤 (Back 𝓛 T.signature y.0 v r) (said r))
          (ex_i 𝓤 (λ (s : Res T.signature y.0.0). sep 𝓤 (Back 𝓛 T.signature y.0 v s) (After s)) r)))

      begins : ent 𝓤 (C.pre y) (D.pre x)
      begins =
          mono_r 𝓤 (on_entry 𝓛 T.signature y.0.0 y.0.1 y.0.3 y.0.4)
          (via 𝓤 (emp 𝓤) (top 𝓤 ((c y.0.0 y.0.3).requires y.1)) (granted y.0.0 y.0.3))

      asked : ent 𝓤 (C.pre y) (ask 𝓤 D (C.args y) (C.post y))
      asked =
          via 𝓤 (D.pre x) begins
          (via 𝓤 (sep 𝓤 (emp 𝓤) (D.pre x)) (emp∗ 𝓤 (D.pre x))
          (via 𝓤 (sep 𝓤 (then 𝓤 D x (C.post y)) (D.pre x)) (mono_l 𝓤 (D.pre x) (all_i 𝓤 (λ (v : Val). wand 𝓤 (D.post x v) (C.post y v)) (λ v. wand_i 𝓤 (emp 𝓤) (D.post x v) (C.post y v) (via 𝓤 (D.post x v) (snd∗ 𝓤 (emp 𝓤) (D.post x v)) (ends v)))))
          (via 𝓤 (sep 𝓤 (D.pre x) (then 𝓤 D x (C.post y))) (comm∗ 𝓤 (then 𝓤 D x (C.post y)) (D.pre x)) (ask_at 𝓤 D x (C.post y)))))

    pub meets_granted : (run : Fun 𝓤) → FmF 𝓤 run → Meets 𝓛 T.signature run (closing 𝓛 T (saying_asked asks φ)) → Meets 𝓛 T.signature run (closing 𝓛 T c)
    meets_granted run framed met = implied 𝓤 D C asked run framed met

  pub meets :
      (φ : Fact) (c : Clauses 𝓤 T) → Shown φ c → (run : Fun 𝓤) → FmF 𝓤 run → Meets 𝓛 T.signature run (closing 𝓛 T (saying φ)) → Meets 𝓛 T.signature run (closing 𝓛 T c)
  meets φ c shown = meets_granted nothing (λ κs a. id⊢ 𝓤 (emp 𝓤)) φ c shown
