-- It asks for the heap, and passes the request on where it is lent one. Assumes `Logic`.
use Rattle.std.proofs.Common.{◌≡◌, ℕ, ◌^◌, ◌<◌, T, true, false, List, [], ◌∷◌, Ok, Err, refl, sym, subst, w64, Bor}
use Rattle.std.specs.Prelude.{Option, None, Some}
use seplogic.Ra.Ura.{Ura}
use mir.Syntax.{Ty, Args, Fn, Body, a_type, dnil, dcons, place}
use mir.Val.{Val, vint, vptr, has_ty, WT}
use mir.MapTy.{inst_fn}
use base.Logic.{SProp, ent}
use base.Fml.{Lft, Share, ftrue, flft}
use prog.Memory.{Memory, size, align, capped}
use prog.Routine.{Routine}
use prog.Wp.{WpFn, Wp, Tables, Env, after_seq, at_return}
use types.Logic.{Logic}
use types.Part.{whole, agg}
use types.Match.{vrt, in_variant}
use types.Run.{stop, fld, lit, first, exec, no_more, and_then, of_opd, switches_on, returns, enter}
use types.ByLocal.{alloc_all, pass_all, free_all, look_at, get, get_in, get_tag, sets, sets_last, lands_as, lands_last, holding, env}
use types.Kit.{Item, Seq, Go, Post as After, ⋆, ‵, raw, ◌⊛◌, some, given, later, lands, at_ret, any_q, ◌$◌, ◌∵◌, !, qed, by, move, keep, use0, use1, use2, split, split3, join, pick, learn, rewrite, fsplit, fjoin, suffices, await, done}
use contract.BorrowLft.{◌⊑◌, ⊑_trans}
use contract.Monad.{Fun, fact}
use contract.Running.{tables, tables_of}
use sound.WpLaws.{fm_of, WpFn-mono}
use denote.Builtin.{usize, RefOf}
use denote.Exit.{yes}
use denote.Param.{bounded, layout}
use denote.Plain.{uint_vals, uint_Tells}
use denote.RattleType.{owns}
use denote.RawPtr.{block_ptr}
use denote.Ref.{shr_vals}
use denote.Signature.{Slot, plain, types_at}
use denote.Steps.{heard, nothing}
use denote.Triple.Call.{calls_at, calls_at_last}
use denote.Triple.Clauses.{Ended, Clauses}
use denote.Triple.Spec.{triple_of}
use denote.Triple.Statement.{Triple}
use denote.Triple.Table.{entered}
use denote.Triple.Walked.{Stays, stay_dropped, walk_of, ends_at, walked, Goes-dropped, walk_Meets}
use Rattle.std.specs.Allocator.{block_if_ok}
use Rattle.std.proofs.VecSteps.Shapes.{after, front, arm_body}
use Rattle.std.proofs.alloc.Calls.{Al, token, Answer, answer_val, Answer-typed, Answer-Ok, Answer-err, takes_key, Takes, at_takes, Answered, Takes-goes, Takes-gives, answers}
use Rattle.refusing.specs.contracts.RefusingAllocator.allocate as F
use Rattle.refusing.specs.contracts.RefusingAllocator.allocate.Key as key
use Rattle.refusing.proofs.Granted.{Whole, Grants, granted_key, lent_val, lent-typed, sees, Told, asked, granted-goes, granted-gives}
use Rattle.refusing.proofs.Refusing.granted.Met as granted
use Rattle.refusing.proofs.RefusingAllocator.allocate.Statement as stated
use Rattle.refusing.proofs.RefusingAllocator.allocate.Code as code

module _ (Z : Al) where
  abbrev args : Args
  args = bounded (a_type ∷ []) (Z.row, tt) (dcons Z.d (dcons Z.drops dnil))

  abbrev here : Fn
  here = inst_fn args code.function

  abbrev self : Slot 2
  self = RefOf (0 ∷ []) tt (plain (λ _. Whole Z)) (λ _. tt)

  abbrev ended : Ended
  ended = F.ended Z.row Z.g Z.d Z.drops

  abbrev stayed : Stays ended.signature.params ended.kept
  stayed = (stay_dropped self yes, (stay_dropped (plain (λ _. usize)) yes, (stay_dropped (plain (λ _. usize)) yes, tt)))

module _ (Z : Al) {M : Type 1} {𝓤 : Ura M} (𝓛 : Logic 𝓤) (at_mem : Memory → SProp 𝓤) (run : Routine → Fun 𝓤) (𝓣 : Tables 𝓤 𝓛.H)
    (takes : Triple 𝓤 (𝓣.C (takes_key Z)) (Takes Z 𝓛 at_mem run)) (grants : Triple 𝓤 (𝓣.C (granted_key Z)) (Grants Z 𝓛 at_mem run)) where
  open 𝓛 use {H}

  abbrev clauses : Clauses 𝓤 (ended Z)
  clauses = F.clauses Z.row Z.g Z.d Z.drops 𝓛 at_mem run

  module _ (κ ρ : Lft) (q s : Share) (out : κ ⊑ ρ) (r : Bor (Whole Z).Denot) (n a : ℕ) (τ : Ty) where
    abbrev bound : (walk_of 𝓛 (ended Z) (stayed Z) clauses).Ghost
    bound = (((κ, (ρ, tt)), (q, (s, tt)), (out, tt), (r, (n, (a, tt))), (shr_vals r, (vint w64 n ∷ [], (vint w64 a ∷ [], tt)))), τ)

    abbrev vals : List Val
    vals = vptr r.ref_ptr.0 r.ref_ptr.1 ∷ vint w64 n ∷ vint w64 a ∷ []

    abbrev Fits : Type 0
    Fits = (capped (size τ) ≡ n) × (capped (align τ) ≡ a)

    abbrev Post : Val → SProp 𝓤
    Post = (walk_of 𝓛 (ended Z) (stayed Z) clauses).post bound

    abbrev rest : List (Item 𝓤)
    rest = ‵ (flft κ q) ∷ (‵ (flft ρ s) ⊛ ‵ ftrue) ∷ []

    -- the answer, what comes with it and the tokens are what is promised
    promised : (v : Val) (res : Answer.Denot)
        → ent 𝓤 (⋆ 𝓛 (‵ (Answer.own_val res (v ∷ [])) ∷ ‵ (block_if_ok (token Z r.now.heap) τ res) ∷ rest)) (Post v)
    promised v res =
        qed 𝓛 (‵ (Answer.own_val res (v ∷ [])) ∷ ‵ (block_if_ok (token Z r.now.heap) τ res) ∷ rest) ∵
        suffices ! _ (ends_at 𝓛 (ended Z) (stayed Z) clauses bound v res (tt, (tt, (tt, tt))) (tt, (tt, (tt, tt)))) $
        nothing ! $ nothing ! $ fjoin ! $ nothing ! $ fjoin ! $ nothing ! $ fjoin ! $ join ! $
        move ! (2 ∷ 3 ∷ []) $ join ! $ join ! $ done !

    module _ (fits-n : n < 2 ^ 64) (fits-a : a < 2 ^ 64) (lives : ρ ⊑ Z.row.lives) (fits : Fits) (l : ℕ → ℕ) (u : Val) where
      abbrev En : Env 𝓤 H
      En = env (here Z).locals l

      abbrev matched : Body
      matched = after 1 (here Z).body

      abbrev Behind : After 𝓤 H
      Behind = any_q (after_seq 𝓤 H (Wp 𝓤 H 𝓣.C 𝓣.Λ En (after 2 (here Z).body) (at_return 𝓤 H En Post)) (at_return 𝓤 H En Post))

      abbrev lends : Option (Bor Z.row.Denot) → Item 𝓤
      lends o = given ((u ≡ lent_val o) × Told Z 𝓛 at_mem run κ ρ q s out r o) (‵ (sees Z κ o) ⊛ ‵ (flft κ q) ⊛ ‵ (flft ρ s) ⊛ ‵ ftrue)

      typed : (y : _) (b o : ℕ) (v : Val) → v ≡ answer_val y b o → T (has_ty (layout Answer) v) × WT v
      typed y b o v is = subst (λ (w : Val). T (has_ty (layout Answer) w) × WT w) (sym is) (Answer-typed y b o)

      -- from the call of `granted` to the end
      answered : (o : Option (Bor Z.row.Denot))
          → Seq (Go {0}) 𝓛 (lends o ∷ holding 𝓛 En ((3, vint w64 a) ∷ (2, vint w64 n) ∷ (1, vptr r.ref_ptr.0 r.ref_ptr.1) ∷ []))
          (lands 𝓣.C 𝓣.Λ En (place 5 []) u matched (at_ret En Post))
      answered None =
          learn ! (λ known. split3 ! $ lands_as ! known.0 refl (lent-typed Z None) $
          first ! $ switches_on ! (get_tag ! (vrt ! refl (fld ! refl (stop !))) (whole !)) $
          exec ! 𝓣.C 𝓣.Λ En (arm_body 1 (front matched)) Behind $
          sets ! (agg ! (no_more !)) refl (tt, tt) $
          sets_last ! (agg ! (and_then ! (lit ! tt) (and_then ! (get ! refl) (no_more !)))) refl (Answer-typed false 0 0) $
          exec ! 𝓣.C 𝓣.Λ En (after 2 (here Z).body) (at_ret En Post) $
          sets ! (of_opd ! (get ! refl)) refl (Answer-typed false 0 0) $ returns ! (look_at ! 0 refl) $ free_all ! refl $
          use0 𝓛 (‵ (Answer.own_val (Err (record {})) (answer_val false 0 0 ∷ []))) (Answer-err 𝓛) $
          by ! (promised (answer_val false 0 0) (Err (record {}))))
      answered (Some heap) =
          let y : (Takes Z 𝓛 at_mem run).Ghost = at_takes Z 𝓛 at_mem run κ q heap.ref_ptr heap.now n a τ in
          learn ! (λ known. split3 ! $ lands_as ! known.0 refl (lent-typed Z (Some heap)) $
          first ! $ switches_on ! (get_tag ! (vrt ! refl (fld ! refl (stop !))) (whole !)) $
          exec ! 𝓣.C 𝓣.Λ En (arm_body 0 (front matched)) Behind $
          sets ! (of_opd ! (get_in ! (vrt ! refl (fld ! refl (stop !))) (in_variant ! 1 0 refl refl (whole !)))) refl (tt, tt) $
          use2 𝓛 (raw ((Takes Z 𝓛 at_mem run).pre y)) (Takes-goes Z 𝓛 at_mem run κ q heap.ref_ptr heap.now (⊑_trans κ ρ Z.row.lives out lives) n a τ fits.0 fits.1 fits-n fits-a) $
          calls_at_last ! (fm_of 𝓤 H 𝓛.laws 𝓣) (Takes Z 𝓛 at_mem run) takes y (and_then ! (get ! refl) (and_then ! (get ! refl) (and_then ! (get ! refl) (no_more !)))) (λ v.
          use1 𝓛 (later (raw (Answered Z 𝓛 at_mem run heap.now τ v) ⊛ ‵ (flft κ q))) (Takes-gives Z 𝓛 at_mem run κ q heap.ref_ptr heap.now n a τ v) $ await ! tt $ split ! $
          answers Z ! at_mem run heap.now τ v
          (λ b o is. rewrite ! 1 (λ (h : Z.row.Denot). ‵ (token Z h τ (block_ptr b o))) known.1 refl $ fjoin ! $
          lands_last ! refl (typed true b o v is) $ exec ! 𝓣.C 𝓣.Λ En (after 2 (here Z).body) (at_ret En Post) $
          sets ! (of_opd ! (get ! refl)) refl (typed true b o v is) $ returns ! (look_at ! 0 refl) $ free_all ! refl $
          use0 𝓛 (‵ (Answer.own_val (Ok (block_ptr b o)) (answer_val true b o ∷ []))) (Answer-Ok 𝓛 b o) $
          rewrite ! 0 (λ (w : Val). ‵ (Answer.own_val (Ok (block_ptr b o)) (w ∷ []))) (sym is) refl $ by ! (promised v (Ok (block_ptr b o))))
          (λ is. nothing ! $
          lands_last ! refl (typed false 0 0 v is) $ exec ! 𝓣.C 𝓣.Λ En (after 2 (here Z).body) (at_ret En Post) $
          sets ! (of_opd ! (get ! refl)) refl (typed false 0 0 v is) $ returns ! (look_at ! 0 refl) $ free_all ! refl $
          use0 𝓛 (‵ (Answer.own_val (Err (record {})) (answer_val false 0 0 ∷ []))) (Answer-err 𝓛) $
          rewrite ! 0 (λ (w : Val). ‵ (Answer.own_val (Err (record {})) (w ∷ []))) (sym is) refl $ by ! (promised v (Err (record {}))))))

    walk : n < 2 ^ 64 → a < 2 ^ 64 → ent 𝓤 ((walk_of 𝓛 (ended Z) (stayed Z) clauses).pre bound) (WpFn 𝓤 H 𝓣.C 𝓣.Λ (here Z) vals Post)
    walk fits-n fits-a =
        let tokens : Item 𝓤 = ‵ (flft κ q) ⊛ ‵ (flft ρ s) ⊛ ‵ ftrue in
        let handed : Item 𝓤 = ‵ (owns (types_at (ended Z).signature.params bound.0.0) bound.0.3 bound.0.4) in
        qed 𝓛 ((tokens ⊛ handed) ∷ (raw (fact 𝓤 (ρ ⊑ Z.row.lives)) ⊛ raw (fact 𝓤 Fits)) ∷ []) ∵
        move ! (1 ∷ []) $ split ! $ heard ! (ρ ⊑ Z.row.lives) (λ lives. heard ! Fits (λ fits.
        split ! $ move ! (1 ∷ []) $ fsplit ! $ fsplit ! $ keep ! (1 ∷ 3 ∷ []) $
        enter ! 𝓣.C 𝓣.Λ (here Z) vals _ $
        alloc_all ! (λ l. pass_all ! refl ((tt, tt), ((tt, record { fits = fits-n }), ((tt, record { fits = fits-a }), tt))) $
        use2 𝓛 (raw ((Grants Z 𝓛 at_mem run).pre (asked Z 𝓛 at_mem run κ ρ q s out r))) (granted-goes Z 𝓛 at_mem run κ ρ q s out r lives) $
        calls_at ! (fm_of 𝓤 H 𝓛.laws 𝓣) (Grants Z 𝓛 at_mem run) grants (asked Z 𝓛 at_mem run κ ρ q s out r) (and_then ! (get ! refl) (no_more !)) (λ u.
        use1 𝓛 (later (some (lends fits-n fits-a lives fits l u))) (granted-gives Z 𝓛 at_mem run κ ρ q s out r u) $ await ! tt $
        pick ! (λ o. answered fits-n fits-a lives fits l u o)))))

pub allocate_spec : {M : Type 1} → stated.statement M
unfolding tables_of
allocate_spec 𝓤 𝓛 𝓜 𝓡 wired Y L g d d' met _ =
    let Z : Al = record { row = Y; laws = L; g = g; d = d; drops = d' } in
    let A = 𝓛.A in
    let 𝓣 : Tables 𝓤 𝓛.H = tables_of 𝓤 𝓛.H 𝓜 (tables 𝓤 𝓛.H 𝓜 𝓡 𝓡.env) in
    let c = F.clauses Y g d d' 𝓛 𝓜.mem 𝓡.returns in
    let number = Goes-dropped 𝓛 2 (plain (λ _. usize)) yes (λ κs x f. refl) in
    entered 𝓤 𝓛.H (triple_of 𝓛 (F.signature Y) (F.spec Y g d d' 𝓛 𝓜.mem 𝓡.returns)) 𝓣.C 𝓣.Λ (key.name (args Z)) (here Z)
    (code.unfolded 𝓤 𝓛.H 𝓜 𝓡 wired (Y, tt) d d')
    (walk_Meets 𝓛 (ended Z) (stayed Z) (Goes-dropped 𝓛 2 (self Z) yes (λ κs x f. refl), (number, (number, tt))) c
    (WpFn 𝓤 𝓛.H 𝓣.C 𝓣.Λ (here Z)) (WpFn-mono 𝓤 𝓛.H 𝓛.laws 𝓣 (here Z))
    (walked 𝓛 (ended Z) (stayed Z) c (WpFn 𝓤 𝓛.H 𝓣.C 𝓣.Λ (here Z)) (λ κs. (shr_vals, (uint_vals w64, (uint_vals w64, tt))))
    (λ κs. ((λ r vs s. s.0), (uint_Tells w64, (uint_Tells w64, tt))))
    (λ κs qs bounds a τ are.
    walk Z 𝓛 𝓜.mem 𝓡.returns 𝓣 (met.allocate d') (granted.met 𝓤 𝓛 𝓜 𝓡 (code.calls-refusing::Refusing::granted 𝓡.env wired) Y L)
    κs.0 κs.1.0 qs.0 qs.1.0 bounds.0 a.0 a.1.0 a.1.1.0 τ are.1.0.1 are.1.1.0.1)))
