-- `Refusing::granted` at a call: what it is handed, and the heap that it lends, if it lends one. Assumes `Logic`.
use Rattle.std.proofs.Common.{◌≡◌, List, [], ◌∷◌, ◌++◌, T, lit<, refl, ap, ◌∙◌, Bor}
use Rattle.std.specs.Prelude.{Option, None, Some, IfSome}
use seplogic.Ra.Ura.{Ura}
use mir.Syntax.{Callee, a_type, named}
use mir.Val.{Val, vptr, of_list, has_ty, WT}
use base.Logic.{SProp, ent, sep, ex, guard, emp, id⊢}
use base.Fml.{Lft, Share, Fml, ftrue, fsep}
use prog.Memory.{Memory}
use prog.Routine.{Routine}
use types.Logic.{Logic, sem}
use contract.BorrowLft.{◌⊑◌}
use contract.Monad.{Fun, fact, fact_i}
use types.Kit.{‵, raw, ◌⊛◌, some, later, given, ◌$◌, ◌∵◌, !, qed, move, keep, use0, use1, split, join, pick, learn, fsplit, fjoin, fpick, feq_l, feq_i, check, show, await, updating, now as at_once, done}
use types.Match.{live}
use denote.RattleType.{RattleType}
use denote.Memory.{hidden_shr}
use denote.Param.{layout, layouts, param}
use denote.Ref.{ShrRef, shr_vals}
use denote.Steps.{only, nothing}
use denote.Triple.Statement.{Contract}
use denote.Triple.Spec.{triple_of}
use Rattle.std.specs.contracts.option.Option as Maybe
use Rattle.std.proofs.alloc.Calls.{Al, seen}
use Rattle.refusing.specs.contracts.Refusing as Wrapper
use Rattle.refusing.specs.contracts.Refusing.granted as F
use Rattle.refusing.specs.contracts.Refusing.granted.Key as key

-- what stands in memory for the answer
abbrev pub lent_val : {X : Type 0} → Option (Bor X) → Val
lent_val None = live 0 (of_list [])
lent_val (Some heap) = live 1 (of_list (vptr heap.ref_ptr.0 heap.ref_ptr.1 ∷ []))

module _ (Z : Al) where
  abbrev pub granted_key : Callee
  granted_key = key.name (layouts (a_type ∷ []) (Z.row, tt))

  abbrev pub Whole : RattleType
  Whole = Wrapper.the_row (param 0 Z.row)

  abbrev pub Lent : Lft → RattleType
  Lent κ = Maybe.the_row (ShrRef (named 0) κ (param 0 Z.row))

  abbrev pub sees : Lft → Option (Bor Z.row.Denot) → Fml
  sees κ None = ftrue
  sees κ (Some heap) = seen Z κ heap.ref_ptr heap.now

  pub lent-typed : (o : Option (Bor Z.row.Denot)) → T (has_ty (layout (Lent [])) (lent_val o)) × WT (lent_val o)
  lent-typed None = (tt, (record { fits = lit< tt }, tt))
  lent-typed (Some heap) = (tt, (record { fits = lit< tt }, (tt, tt)))

module _ (Z : Al) {M : Type 1} {𝓤 : Ura M} (𝓛 : Logic 𝓤) (at_mem : Memory → SProp 𝓤) (run : Routine → Fun 𝓤) where
  open 𝓛 use {H, A}

  abbrev pub Grants : Contract 𝓤
  Grants = triple_of 𝓛 (F.signature Z.row) (F.spec Z.row 𝓛 at_mem run)

  module _ (κ ρ : Lft) (q s : Share) (out : κ ⊑ ρ) (r : Bor (Whole Z).Denot) where
    abbrev pub asked : Grants.Ghost
    asked = (((κ, (ρ, tt)), (q, (s, tt)), (out, tt), (r, tt), (shr_vals r, tt)), tt)

    abbrev pub Tokens : SProp 𝓤
    Tokens = sep 𝓤 (A.lft κ q) (sep 𝓤 (A.lft ρ s) (emp 𝓤))

    abbrev pub Told : Option (Bor Z.row.Denot) → Type 0
    Told o = IfSome o (λ heap. heap.now ≡ r.now.heap)

    pub granted-goes : ρ ⊑ Z.row.lives → ent 𝓤 (sep 𝓤 (sem 𝓛 (hidden_shr (Whole Z) κ r.now r.ref_ptr.0 r.ref_ptr.1)) Tokens) (Grants.pre asked)
    granted-goes lives =
        qed 𝓛 (‵ (hidden_shr (Whole Z) κ r.now r.ref_ptr.0 r.ref_ptr.1) ∷ raw Tokens ∷ []) ∵
        feq_i ! (List Val) (shr_vals r) (shr_vals r) refl $ fjoin ! $ nothing ! $ move ! (1 ∷ 0 ∷ []) $ fjoin ! $
        move ! (1 ∷ 0 ∷ []) $ join ! $ nothing ! $
        use0 𝓛 (raw (fact 𝓤 (ρ ⊑ Z.row.lives))) (fact_i 𝓤 (ρ ⊑ Z.row.lives) (emp 𝓤) lives) $
        join ! $ move ! (1 ∷ 0 ∷ []) $ done !

    lent : (o : Option (Bor Z.row.Denot)) (v : Val) → ent 𝓤 (sem 𝓛 ((Lent Z κ).own_val o (v ∷ []))) (guard 𝓤 (v ≡ lent_val o) (sem 𝓛 (sees Z κ o)))
    lent None v =
        qed 𝓛 (‵ ((Lent Z κ).own_val None (v ∷ [])) ∷ []) ∵
        fpick ! (λ us. fsplit ! $ feq_l ! (λ tagged. fpick ! (λ vss. fsplit ! $ feq_l ! (λ inside.
        check ! (ap only tagged ∙ ap (λ (ws : List Val). live 0 (of_list ws)) inside) $ done !))))
    lent (Some heap) v =
        qed 𝓛 (‵ ((Lent Z κ).own_val (Some heap) (v ∷ [])) ∷ []) ∵
        fpick ! (λ us. fsplit ! $ feq_l ! (λ tagged. fpick ! (λ vss. fsplit ! $ feq_l ! (λ inside. fsplit ! $ fsplit ! $ feq_l ! (λ bits.
        check ! (ap only tagged ∙ ap (λ (ws : List Val). live 1 (of_list ws)) (inside ∙ ap (λ (ws : List Val). ws ++ []) bits)) $
        keep ! (0 ∷ []) $ done !)))))

    abbrev pub Granted : Val → Option (Bor Z.row.Denot) → SProp 𝓤
    Granted v o = guard 𝓤 ((v ≡ lent_val o) × Told o) (sep 𝓤 (sem 𝓛 (sees Z κ o)) Tokens)

    pub granted-gives : (v : Val) → ent 𝓤 (Grants.post asked v) (H.⇛ (ex 𝓤 (Granted v)))
    granted-gives v =
        qed 𝓛 (raw (Grants.post asked v) ∷ []) ∵ updating ! $
        use1 𝓛 (later (some (λ (o : Option (Bor Z.row.Denot)). (raw Tokens ⊛ ‵ ((Lent Z κ).own_val o (v ∷ []))) ⊛ some (λ (ws : Unit {0} × Unit {0}). ‵ (fsep ftrue ftrue) ⊛ given (Told o) (‵ ftrue))))) (id⊢ 𝓤 _) $
        await ! tt $ pick ! (λ o. split ! $ split ! $ move ! (1 ∷ []) $
        use1 𝓛 (given (v ≡ lent_val o) (‵ (sees Z κ o))) (lent o v) $ learn ! (λ is.
        move ! (2 ∷ []) $ pick ! (λ ws. split ! $ move ! (1 ∷ []) $ learn ! (λ told.
        at_once ! $ show ! (Granted v) o $ check ! (is, told) $ keep ! (2 ∷ 3 ∷ []) $ done !))))
