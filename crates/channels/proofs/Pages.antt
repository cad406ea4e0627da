-- A merge into one channel: where the channel stands by its page, its answer is the one that the page calls for.
-- Assumes nothing.
use Rattle.std.specs.Prelude.{Option, None, Some}
use Rattle.std.specs.Prelude.{Ok, Err}
use Rattle.channels.specs.Merge.{Merged}
use mathlib.Core.Path.{◌≡◌, refl, sym, subst, ap, ◌∙◌}
use mathlib.Core.Bool.{Bool, true, false, cond, ◌||◌}
use mathlib.Core.Logic.Iff
use mathlib.Core.Logic.{◌↔◌, inl, inr}
use mathlib.Core.List.{List, [], ◌∷◌}
use Prim.Native.Nat.{ℕ}
use native.Mathlib.Omega.{arith}
use native.Mathlib.Decide.{ℕ_discrete}
use lib.Dec.{eqb, lit≤}
use borrow.Author.Tests.{eq-eqb, ne_eqb}
use Rattle.flat.specs.Kind
use Rattle.flat.specs.declared.error.Error.TheVariants.{NotInteger, NoUpcast}
use Rattle.flat.proofs.Truths.{never}
use Rattle.supertype_numbers.specs.Range.{Listed, is_listed, HasNumber, Includes, Covers, Least, Room}
use Rattle.supertype_numbers.proofs.Tests.{listed, is_listed_kind, not_listed}
use Rattle.supertype_numbers.proofs.Ranges.{has_number}
use Rattle.supertype_lossless.specs.Lossless.{upcast_of}
use Rattle.supertype_lossless.proofs.Laws.{lossless_laws}
use Rattle.channels.specs.Merge.{upcast_held, merged_with}
use Rattle.channels.specs.Model.{Mergeable, numbered, LeastOrNone, Stands}
use Rattle.channels.proofs.Arms.{Taken, first, equal, upcast}
use Rattle.channels.proofs.Arms as arms

-- the answer that a page calls for when a type of the kind k is offered
pub data Answered (page : List ℕ) (k : ℕ) : Merged → Type 0 where
  not_integer : ¬ Mergeable k → Answered page k (Err NotInteger)
  accepted : {c : ℕ} → Mergeable k → Room (k ∷ page) → Stands (k ∷ page) c → Answered page k (Ok c)
  no_room : Mergeable k → ¬ Room (k ∷ page) → Answered page k (Err NoUpcast)

-- ---- the types that have a number

-- Null's range has none: it isn't listed
pub null_has_none : ¬ HasNumber Kind.Null
null_has_none h = let l : Listed Kind.Null = h.1.0 in absurd (omega arith)

-- including the types of a page that have a number is including all of them
module _ (t : ℕ) where
  pub covers_numbered : (ks : List ℕ) → Covers t (numbered ks) ↔ Covers t ks
  covers_numbered [] = ((λ c. c), (λ c. c))
  covers_numbered (k ∷ ks) = go (is_listed k) refl (covers_numbered ks)
    where
      go : (a : Bool) → is_listed k ≡ a → Covers t (numbered ks) ↔ Covers t ks
          → Covers t (cond a (k ∷ numbered ks) (numbered ks)) ↔ Covers t (k ∷ ks)
      go true e rest = ((λ c. (c.0, rest.0 c.1)), (λ c. (c.0, rest.1 c.1)))
      go false e rest = ((λ c. ((λ z h. never (sym e ∙ (has_number k).0 (z, h))), rest.0 c)), (λ c. rest.1 c.1))

-- types that the same listed types include have the same least type
least_same : {t : ℕ} {ks ls : List ℕ} → ((u : ℕ) → Listed u → Covers u ks ↔ Covers u ls) → Least t ks → Least t ls
least_same {t} same m =
    record {
      is_listed_kind = m.is_listed_kind;
      covers = (same t m.is_listed_kind).0 m.covers;
      innermost = λ u i c. m.innermost u i ((same u i).1 c);
    }

pub over_all : (t : ℕ) (ks : List ℕ) → Least t (numbered ks) ↔ Least t ks
over_all t ks = (least_same (λ u i. covers_numbered u ks), least_same (λ u i. Iff.symm (covers_numbered u ks)))

-- ---- the least type over some, and one type more

-- a listed type is the least over itself
least_itself : {k : ℕ} → Listed k → Least k (k ∷ [])
least_itself l = record { is_listed_kind = l; covers = ((λ z h. h), tt); innermost = λ u i c. c.0 }

-- a type that includes another includes all that the other does
covers_all : (u t : ℕ) (ks : List ℕ) → Includes u t → Covers t ks → Covers u ks
covers_all u t [] i c = tt
covers_all u t (k ∷ ks) i c = ((λ z h. i z (c.0 z h)), covers_all u t ks i c.1)

module _ {ks : List ℕ} {held : ℕ} (m : Least held ks) (k : ℕ) where
  -- when it is offered once more, it stays the least
  held_again : held ≡ k → Least held (k ∷ ks)
  held_again e = least_same (λ u i. ((λ c. (subst (Includes u) e (m.innermost u i c), c)), (λ c. c.1))) m

  -- a listed type includes them exactly where it includes the held type
  with_held : (u : ℕ) → Listed u → Covers u (held ∷ k ∷ []) ↔ Covers u (k ∷ ks)
  with_held u i =
      ((λ c. (c.1.0, covers_all u held ks c.0 m.covers)), (λ c. (m.innermost u i c.1, (c.0, tt))))

  -- the least over the held type and k is the least over them and k
  least_joined : {c : ℕ} → Least c (held ∷ k ∷ []) → Least c (k ∷ ks)
  least_joined = least_same with_held

-- ---- the answer

-- a channel that stands somewhere holds 0 or a listed type
pub code_stands : (held : ℕ) (ks : List ℕ) → LeastOrNone ks held → eqb held 0 || is_listed held ≡ true
code_stands held [] s = rw (eq-eqb held 0 s)
code_stands held (n ∷ ns) s = let l = s.is_listed_kind in rw (ne_eqb held 0 (omega arith), is_listed_kind l)

-- and some type includes what it stands over
some_type : (held : ℕ) (ks : List ℕ) → LeastOrNone ks held → Room ks
some_type held [] s = (Kind.UInt8, (lit≤ tt, lit≤ tt), tt)
some_type held (n ∷ ns) s = (held, s.is_listed_kind, s.covers)

module _ (page : List ℕ) (k : ℕ) where
  -- a listed type joins the page
  joins : {c : ℕ} → Listed k → Least c (k ∷ numbered page) → Answered page k (Ok c)
  joins {c} l m =
      accepted {c = c} (inl l) (c, m.is_listed_kind, (m.covers.0, (covers_numbered c page).0 m.covers.1))
      (rw (is_listed_kind l) m)

  full : Listed k → ¬ Room (k ∷ numbered page) → Answered page k (Err NoUpcast)
  full l n = no_room (inl l) (λ r. n (r.0, r.1, (r.2.0, (covers_numbered r.0 page).1 r.2.1)))

  -- Null joins it, and the channel stands where it stood
  stays : {held : ℕ} → k ≡ Kind.Null → Stands page held → Answered page k (Ok held)
  unfolding is_listed
  stays {held} e s =
      let r = some_type held (numbered page) s in
      accepted {c = held} (inr e)
      (r.0, r.1, ((λ z h. absurd (null_has_none (z, rw e at h))), (covers_numbered r.0 page).0 r.2))
      (rw e s)

  -- no other does
  neither : (k ≡ Kind.Null → ⊥) → is_listed k ≡ false → ¬ Mergeable k
  neither n e (inl l) = not_listed e l
  neither n e (inr z) = n z

  on_listed : {held : ℕ} → Taken held k → (ks : List ℕ) → numbered page ≡ ks → LeastOrNone ks held
      → Answered page k (merged_with held k)
  on_listed w [] e s =
      let l : Listed k = listed w.integer in subst (Answered page k) (first w s) (joins l (rw e (least_itself l)))
  on_listed {held} w (n ∷ ns) e m = go (ℕ_discrete held k) (upcast_of held k) refl
    where
      l : Listed k
      l = listed w.integer

      not_empty : held ≡ 0 → ⊥
      not_empty = let i = m.is_listed_kind in omega arith

      go : Dec (held ≡ k) → (u : Option ℕ) → upcast_of held k ≡ u → Answered page k (merged_with held k)
      go (yes d) u g = subst (Answered page k) (equal w not_empty d) (joins l (rw e (held_again m k d)))
      go (no d) (Some c) g =
          subst (Answered page k) (ap upcast_held (sym g) ∙ upcast w not_empty d)
          (joins l (rw e (least_joined m k ((lossless_laws.least held k m.is_listed_kind l d c).0 g))))
      go (no d) None g =
          subst (Answered page k) (ap upcast_held (sym g) ∙ upcast w not_empty d)
          (full l (rw e (λ r. (lossless_laws.none held k m.is_listed_kind l d).0 g
          (r.0, r.1, (with_held m k r.0 r.1).1 r.2))))

  pub answered : (held : ℕ) → Stands page held → Answered page k (merged_with held k)
  answered held s = go (ℕ_discrete k Kind.Null) (is_listed k) refl
    where
      code : eqb held 0 || is_listed held ≡ true
      code = code_stands held (numbered page) s

      go : Dec (k ≡ Kind.Null) → (a : Bool) → is_listed k ≡ a → Answered page k (merged_with held k)
      go (yes e) a f = subst (Answered page k) (arms.null held k code e) (stays e s)
      go (no n) false f = subst (Answered page k) (arms.not_integer held k code n f) (not_integer (neither n f))
      go (no n) true f = on_listed (record { code = code; integer = f }) (numbered page) refl s
