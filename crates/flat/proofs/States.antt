-- The states of the scan: what settling, opening and paying keep. Assumes nothing.
use mathlib.Core.Path.{◌≡◌, refl, sym, ◌∙◌}
use mathlib.Core.Bool.{Bool, true, false, cond}
use Prim.Native.Nat.{ℕ, suc, ◌+◌, ◌-◌, ◌≤◌, ◌<◌}
use native.Mathlib.Omega.{arith}
use native.Mathlib.Numerals.{add-two}
use borrow.Author.Tests.{eqb-true, ltb-true, ltb-false, eq-eqb, ne_eqb}
use lib.Dec.{ltb, eqb}
use Rattle.flat.specs.Scan.{NoDeeper, start, settled, wrapped, opened, paid}
use Rattle.flat.specs.declared.scan.Scan.{Scan}

-- What r, the settled s, keeps of it: as many fields are owed by inner Structs, and where some are, it is s.
pub record Settled (s r : Scan) : Type 0 where
  pub owed : r.owed ≡ s.owed
  pub base : r.base ≡ s.base
  pub outer : r.outer ≤ s.owed
  pub inner : s.owed - r.outer ≡ s.owed - s.outer
  pub stays : s.outer ≤ s.owed → r.depth ≡ s.depth
  pub back : s.owed < s.outer → r.depth ≡ s.base

pub settles : (s : Scan) → Settled s (settled s)
unfolding settled
settles s = go (ltb s.owed s.outer) refl
  where
    go :
        (b : Bool) → ltb s.owed s.outer ≡ b
        → Settled s (cond b (record { owed = s.owed; outer = s.owed; base = s.base; depth = s.base }) s)
    go true e =
        let h = ltb-true s.owed s.outer e in
        record { owed = refl; base = refl; outer = omega arith; inner = omega arith; stays = λ g. absurd (omega arith); back = λ g. refl }
    go false e =
        let h = ltb-false s.owed s.outer e in
        record { owed = refl; base = refl; outer = h; inner = refl; stays = λ g. refl; back = λ g. absurd (omega arith) }

-- under a List or an Array: the state is settled, one level deeper
pub wrapped_depth : (s : Scan) → (settled (wrapped s)).depth ≡ suc (settled s).depth
unfolding wrapped
wrapped_depth s = (settles (wrapped s)).stays (omega (arith, settles s))

-- the state under a Struct of m fields: the outermost one, or one whose fields come before those owed
pub data UnderStruct (m : ℕ) (s : Scan) : Scan → Type 0 where
  outermost : s.owed ≡ 0 → UnderStruct m s (record { owed = m; outer = m; base = suc (suc (settled s).depth); depth = suc (suc (settled s).depth) })
  inside : UnderStruct m s (record { owed = s.owed + m; outer = (settled s).outer; base = (settled s).base; depth = suc (suc (settled s).depth) })

pub opens : (m : ℕ) (s : Scan) → UnderStruct m s (opened m s)
unfolding opened
opens m s = go (eqb s.owed 0) refl
  where
    go :
        (b : Bool)
        → eqb s.owed 0 ≡ b
        → UnderStruct m s
        (cond b (record { owed = m; outer = m; base = suc (suc (settled s).depth); depth = suc (suc (settled s).depth) })
        (record { owed = s.owed + m; outer = (settled s).outer; base = (settled s).base; depth = suc (suc (settled s).depth) }))
    go true e = outermost (eqb-true s.owed 0 e)
    go false e = inside

-- the state under a Struct in the code's terms, from the settled state r
module _ (m : ℕ) (s r : Scan) (e : r ≡ settled s) where
  pub settled_owed : r.owed ≡ s.owed
  settled_owed = rw e (settles s).owed

  pub first_opened :
      r.owed ≡ 0
      → ◌≡◌ {A = Scan} (record { owed = m; outer = m; base = r.depth + 2; depth = r.depth + 2 }) (opened m s)
  unfolding opened
  first_opened z = rw (eq-eqb s.owed 0 (sym settled_owed ∙ z), e, add-two)

  pub next_opened : (r.owed ≡ 0 → ⊥) → ◌≡◌ {A = Scan} (record { owed = r.owed + m; outer = r.outer; base = r.base; depth = r.depth + 2 }) (opened m s)
  unfolding opened
  next_opened z = rw (ne_eqb s.owed 0 (λ y. z (settled_owed ∙ y)), settled_owed, e, add-two)

-- what is owed
pub wrapped_owed : (s : Scan) → (wrapped s).owed ≡ s.owed
unfolding wrapped
wrapped_owed s = (settles s).owed

pub paid_owed : (s : Scan) → (paid s).owed ≤ s.owed
unfolding paid
paid_owed s = omega arith

-- the bound, one step on
module _ {deep : ℕ} {s : Scan} (w : NoDeeper deep s) where
  pub settled_within : (settled s).depth ≤ deep
  settled_within = go (ltb s.owed s.outer) refl
    where
      go : (b : Bool) → ltb s.owed s.outer ≡ b → (settled s).depth ≤ deep
      go true e = omega (arith, (settles s).back (ltb-true s.owed s.outer e))
      go false e = omega (arith, (settles s).stays (ltb-false s.owed s.outer e))

  pub within_more : {n : ℕ} → deep ≤ n → NoDeeper n s
  within_more h = record { depth = omega arith; base = omega arith }

  pub wrapped_within : (wrapped s).depth ≤ deep → NoDeeper deep (wrapped s)
  unfolding wrapped
  wrapped_within h = record { depth = h; base = omega (arith, settles s) }

  pub opened_within : {m : ℕ} {r : Scan} → UnderStruct m s r → r.depth ≤ deep → NoDeeper deep r
  opened_within (outermost e) h = record { depth = h; base = h }
  opened_within inside h = record { depth = h; base = omega (arith, settles s) }

  pub paid_within : NoDeeper deep (paid s)
  unfolding paid
  paid_within = record { depth = w.depth; base = w.base }

pub start_within : (deep : ℕ) → NoDeeper deep start
start_within deep = record { depth = omega arith; base = omega arith }
