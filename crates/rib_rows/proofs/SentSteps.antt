-- What is known of a record that is lent, and of one that is put in.
use Rattle.std.proofs.Common.{◌≡◌, ℕ, false, Option, None, Some, Result, Ok, Err, OnOk, OnErr, IfSome, sym, ap, ◌∙◌, subst}
use Rattle.std.specs.Borrow.{MutBor}
use Rattle.std.specs.Option.{option_copied_mut}
use Rattle.net_prefix.specs.declared.prefix.Prefix.{Prefix}
use Rattle.prefix_table.specs.Tables.{IsPut}
use Rattle.prefix_trie.specs.TrieMap.{found}
use Rattle.rib_out.specs.Held.{HeldRoute}
use Rattle.holdings.specs.Holdings.{held_by, holds_any}
use Rattle.rib_rows.proofs.RecordTables.{none_held, now_found, same_rows, sound_put}
use Rattle.rib_rows.specs.PrefixRows.{IsRow}
use Rattle.rib_rows.specs.Records.{AreSound, PrefixRecord, RecordTable, held_of, routed, row_of}

module _ {X : Type 0} (r : Option (MutBor X)) (b : MutBor X) (is : r ≡ Some b) where
  -- it is the one that was found
  pub lent_found : (o : Option X) → option_copied_mut r ≡ o → o ≡ Some b.now
  lent_found o value = sym value ∙ ap option_copied_mut is

-- what the slots hold of a prefix, after a step of its record
pub held_put : (step : ℕ → Option HeldRoute → Option HeldRoute) (old new : RecordTable) (prefix : Prefix) (was now : PrefixRecord) → IsPut old new prefix (Some now) → found old prefix ≡ Some was
    → ((s : ℕ) → held_by now.sent s ≡ step s (held_by was.sent s)) → (s : ℕ) → held_of (found new prefix) s ≡ step s (held_of (found old prefix) s)
held_put step old new prefix was now put had did s = ap (λ o. held_of o s) (now_found put) ∙ did s ∙ ap (λ o. step s (held_of o s)) (sym had)

-- a record was put in, or all stayed
by_result : {T E : Type 0} (result : Result T E) (P Q X : Type 0) → OnOk result P → OnErr result Q → (P → X) → (Q → X) → X
by_result (Ok x) P Q X ok err put stays = put ok
by_result (Err e) P Q X ok err put stays = stays err

-- a record without a row, of which nobody holds anything
pub record IsFresh (r : PrefixRecord) : Type 0 where
  pub row : r.row ≡ None
  pub sent : holds_any r.sent ≡ false

module _ {T E : Type 0} (result : Result T E) (old new : RecordTable) (prefix : Prefix) (r : PrefixRecord) (fresh : IsFresh r) (none : found old prefix ≡ None)
    (put : OnOk result (IsPut old new prefix (Some r))) (err : OnErr result (new ≡ old)) where
  pub fresh_sound : AreSound old → AreSound new
  fresh_sound are = by_result result _ _ (AreSound new) put err (λ put. sound_put put are (subst (λ o. IfSome o IsRow) (sym fresh.row) tt)) (λ same. subst AreSound (sym same) are)

  pub fresh_rows : (q : Prefix) → found (routed new) q ≡ found (routed old) q
  fresh_rows q = by_result result _ _ _ put err (λ put. same_rows put (fresh.row ∙ ap row_of (sym none)) q) (λ same. ap (λ es. found (routed es) q) same)

  pub fresh_held : (s : ℕ) → held_of (found new prefix) s ≡ held_of (found old prefix) s
  fresh_held s =
      by_result result _ _ _ put err (λ put. ap (λ o. held_of o s) (now_found put) ∙ none_held r.sent fresh.sent s ∙ ap (λ o. held_of o s) (sym none))
      (λ same. ap (λ es. held_of (found es prefix) s) same)
