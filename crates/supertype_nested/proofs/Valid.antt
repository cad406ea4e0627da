-- An answer's leaves and names follow their rules, so an answer within the limits is a valid type. Assumes nothing.
use mathlib.Core.Path.{◌≡◌, refl, sym, subst, ◌∙◌}
use mathlib.Core.Bool.{Bool, true, false, not, cond, ◌&&◌, ◌||◌}
use mathlib.Core.List.{List, [], ◌∷◌}
use Rattle.std.specs.Prelude.{Option, None, Some}
use Prim.Native.Nat.{ℕ, ◌+◌, ◌*◌, ◌^◌, ◌≤◌, ◌<◌}
use native.Mathlib.Omega.{arith}
use lib.Dec.{T, leb}
use borrow.Author.Tests.{eqb-true, le-leb, lt-ltb, leb-true}
use Rattle.flat.specs.Kind as kind
use Rattle.flat.specs.Argument.{argument_fits, argument_rule, leaf_fits}
use Rattle.flat.specs.Tree.{DataType, leaf, list, array, struct, Fields, empty, field, count, size, sizes}
use Rattle.flat.specs.Tree.{head_kind, head_arg}
use Rattle.flat.specs.Reading.{Ruled, RuledFields}
use Rattle.flat.proofs.Rules.{and_left, and_right}
use Rattle.flat.proofs.Sizes.{size_pos}
use Rattle.flat.proofs.Truths.{never, is_true, both_true}
use Rattle.dtype.specs.Match.{among}
use Rattle.dtype.specs.Predicate.{is_float, is_unknown_int, is_signed_integer, is_unsigned_integer, is_integer}
use Rattle.dtype.specs.Predicate.{is_primitive_numeric}
use Rattle.flat.specs.declared.Node.{Node}
use Rattle.supertype_answer.specs.Join.{root_node, type_of}
use Rattle.supertype_arms.specs.Node.{zone, fits}
use Rattle.supertype_arms.specs.Supertype.{is, arms, unknown_arms, choose, run, TreePlan}
use Rattle.supertype_arms.specs.declared.plan.Plan.{Plan}
use Rattle.supertype_arms.specs.declared.plan.Plan.TheVariants.{Left, Right, Kind, Decimals, DecimalInteger}
use Rattle.supertype_arms.specs.declared.plan.Plan.TheVariants.{DatetimeDuration, Datetimes, Durations}
use Rattle.supertype_arms.specs.declared.plan.Plan.TheVariants.{DynNumber, DynBoolean, DynDecimal}
use Rattle.supertype_arms.proofs.Decimals.{IsDecimal}
use Rattle.supertype_nested.specs.Nested.{SuperTypeOptions, tree_of, root_found, at_roots, tree_plan, supertype_tree}
use Rattle.supertype_nested.specs.Laws.{Each, Eachs, LeavesFit, AnswersValid}
use Rattle.supertype_nested.proofs.Found.{If, if_told}
use Rattle.supertype_nested.proofs.Chosen.{every_of, all_true, or_false, chosen, on_roots}
use Rattle.supertype_nested.proofs.Keeps.{RootsKeep, tree_keeps}
use Rattle.supertype_nested.proofs.Fits.{Fitting, Suits, zone_below, run_fits}

-- ---- what the arms tell of two kinds

-- by plan: the kinds of the types that it makes an argument of, and a kind that it answers is a type with the argument 0
abbrev suits : ℕ → ℕ → Plan → Bool
suits a b Left = false
suits a b Right = false
suits a b (Kind k) = leaf_fits k 0
suits a b Decimals = is kind.Decimal a && is kind.Decimal b
suits a b DecimalInteger = is kind.Decimal a
suits a b DatetimeDuration = (is kind.Duration a && is kind.Datetime b) || (is kind.Datetime a && is kind.Duration b)
suits a b Datetimes = is kind.Datetime a && is kind.Datetime b
suits a b Durations = true
suits a b DynNumber = is_primitive_numeric a
suits a b DynBoolean = is kind.Boolean a
suits a b DynDecimal = is kind.Decimal a

-- an arm that asks for what its plan needs, and for more
asks : (p q : Bool) → T (p || not (p && q))
asks true q = tt
asks false q = tt

asks_that : (p : Bool) → T (p || not p)
asks_that true = tt
asks_that false = tt

asks_first : (p q : Bool) → T ((p || q) || not p)
asks_first true q = tt
asks_first false true = tt
asks_first false false = tt

asks_second : (p q : Bool) → T ((p || q) || not q)
asks_second true q = tt
asks_second false true = tt
asks_second false false = tt

arms_suit : (o : SuperTypeOptions) (a b : ℕ) → T (on_roots (suits a b) (tree_plan o a b))
unfolding tree_plan arms unknown_arms argument_fits argument_rule
arms_suit o a b = go o.allow_implode_list o.allow_primitive_to_string
  where
    first : Bool
    first = is kind.Duration a && is kind.Datetime b

    second : Bool
    second = is kind.Datetime a && is kind.Duration b

    datetimes : Bool
    datetimes = is kind.Datetime a && is kind.Datetime b

    decimals : Bool
    decimals = is kind.Decimal a && is kind.Decimal b

    facts : List Bool
    facts =
        ((first || second) || not first)
        ∷ ((first || second) || not second)
        ∷ (datetimes || not datetimes)
        ∷ (decimals || not decimals)
        ∷ (is kind.Decimal a || not (is kind.Decimal a && (is_signed_integer b || is_unsigned_integer b)))
        ∷ (is_primitive_numeric a || not (is_primitive_numeric a && is_unknown_int b))
        ∷ (is kind.Boolean a || not (is kind.Boolean a && is_unknown_int b))
        ∷ (is kind.Decimal a || not (is kind.Decimal a && is_unknown_int b))
        ∷ []

    hold : T (every_of facts)
    hold =
        all_true facts (
          asks_first first second,
          (
            asks_second first second,
            (
              asks_that datetimes,
              (
                asks_that decimals,
                (
                  asks (is kind.Decimal a) (is_signed_integer b || is_unsigned_integer b),
                  (
                    asks (is_primitive_numeric a) (is_unknown_int b),
                    (
                      asks (is kind.Boolean a) (is_unknown_int b),
                      (asks (is kind.Decimal a) (is_unknown_int b), tt),
                    ),
                  ),
                ),
              ),
            ),
          ),
        )

    go : (i s : Bool) → T (on_roots (suits a b) (choose (arms i s) a b))
    go i true = chosen (on_roots (suits a b)) a b (arms i true) tt hold
    go i false = chosen (on_roots (suits a b)) a b (arms i false) tt hold

-- ---- the roots of two trees

-- a tree whose root's kind passes a test that no nested kind does is that root
root_fits : (q : ℕ → Bool) → q kind.List ≡ false → q kind.Array ≡ false → q kind.Struct ≡ false
    → (l : DataType) → LeavesFit l → q (head_kind l) ≡ true → fits (root_node l) ≡ true
unfolding Each head_kind head_arg fits
root_fits q a b c (leaf k x) h e = h
root_fits q a b c (list t) h e = never (sym a ∙ e)
root_fits q a b c (array w t) h e = never (sym b ∙ e)
root_fits q a b c (struct fs) h e = never (sym c ∙ e)

module _ (l : DataType) (h : LeavesFit l) where
  decimal_root : is kind.Decimal (head_kind l) ≡ true → IsDecimal (root_node l)
  decimal_root e =
      record {
        kind = eqb-true (head_kind l) kind.Decimal e;
        fitting = root_fits (is kind.Decimal) refl refl refl l h e;
      }

  datetime_root : is kind.Datetime (head_kind l) ≡ true → zone (root_node l) < 2 ^ 32
  datetime_root e =
      zone_below (root_node l) (eqb-true (head_kind l) kind.Datetime e)
      (root_fits (is kind.Datetime) refl refl refl l h e)

  number_root : is_primitive_numeric (head_kind l) ≡ true → fits (root_node l) ≡ true
  unfolding is_primitive_numeric is_float is_integer is_signed_integer is_unsigned_integer is_unknown_int among
  number_root e = root_fits is_primitive_numeric refl refl refl l h e

  boolean_root : is kind.Boolean (head_kind l) ≡ true → fits (root_node l) ≡ true
  boolean_root e = root_fits (is kind.Boolean) refl refl refl l h e

-- what the arms tell of two kinds is what a plan asks of two types
roots_suit : (l r : DataType) → LeavesFit l → LeavesFit r → (p : Plan) → T (suits (head_kind l) (head_kind r) p)
    → Suits (root_node l) (root_node r) p
unfolding fits
roots_suit l r h g Left t = absurd t
roots_suit l r h g Right t = absurd t
roots_suit l r h g (Kind k) t = is_true (leaf_fits k 0) t
roots_suit l r h g Decimals t = (
  decimal_root l h (is_true _ (and_left (is kind.Decimal (head_kind l)) (is kind.Decimal (head_kind r)) t)),
  decimal_root r g (is_true _ (and_right (is kind.Decimal (head_kind l)) (is kind.Decimal (head_kind r)) t)),
)
roots_suit l r h g DecimalInteger t = decimal_root l h (is_true _ t)
roots_suit l r h g DatetimeDuration t = go (is kind.Datetime (head_kind l)) refl t
  where
    go : (b : Bool) → is kind.Datetime (head_kind l) ≡ b
        → T ((is kind.Duration (head_kind l) && is kind.Datetime (head_kind r)) || (b && is kind.Duration (head_kind r)))
        → cond b (zone (root_node l)) (zone (root_node r)) < 2 ^ 32
    go true e u = datetime_root l h e
    go false e u =
        datetime_root r g (is_true _ (and_right (is kind.Duration (head_kind l)) (is kind.Datetime (head_kind r))
        (or_false (is kind.Duration (head_kind l) && is kind.Datetime (head_kind r)) u)))
roots_suit l r h g Datetimes t =
    datetime_root r g (is_true _ (and_right (is kind.Datetime (head_kind l)) (is kind.Datetime (head_kind r)) t))
roots_suit l r h g Durations t = tt
roots_suit l r h g DynNumber t = number_root l h (is_true _ t)
roots_suit l r h g DynBoolean t = boolean_root l h (is_true _ t)
roots_suit l r h g DynDecimal t = decimal_root l h (is_true _ t)

-- ---- the answer

abbrev LeafFits : ℕ → ℕ → Type 0
LeafFits k a = leaf_fits k a ≡ true

abbrev NameFits : ℕ → Type 0
NameFits name = argument_fits kind.Field name ≡ true

-- one node as a tree, and back
of_node : (n : Node) → fits n ≡ true → LeavesFit (type_of n)
unfolding fits Each
of_node n h = h

as_tree : (q : Option Node) → Fitting q → If LeavesFit (tree_of q)
unfolding fits Each
as_tree (Some n) h = h
as_tree None h = tt

as_root : (q : Option DataType) → If LeavesFit q → Fitting (root_found q)
unfolding fits Each
as_root None h = tt
as_root (Some (leaf k a)) h = h
as_root (Some (list t)) h = tt
as_root (Some (array w t)) h = tt
as_root (Some (struct fs)) h = tt

roots_keep : RootsKeep LeafFits NameFits
roots_keep call s o l r h g p e =
    as_tree (run (at_roots call) p (root_node l) (root_node r))
    (run_fits (at_roots call)
    (λ n m a b. as_root (call (type_of n) (type_of m)) (s (type_of n) (type_of m) (of_node n a) (of_node m b)))
    (root_node l) (root_node r) p
    (roots_suit l r h g p
    (subst (λ (q : TreePlan). T (on_roots (suits (head_kind l) (head_kind r)) q)) e (arms_suit o (head_kind l) (head_kind r)))))

pub leaves_fit : (o i : SuperTypeOptions) (l r t : DataType) → LeavesFit l → LeavesFit r → supertype_tree o i l r ≡ Some t
    → LeavesFit t
leaves_fit o i l r t h g e =
    if_told LeavesFit (supertype_tree o i l r) t e (tree_keeps LeafFits NameFits roots_keep o i l r h g)

-- ---- within the limits

-- a tree that keeps the rules has leaves and names that do
mutual
  unfolding Each Ruled

  of_ruled : (t : DataType) → Ruled t → LeavesFit t
  of_ruled (leaf k a) h = rw (le-leb k kind.UnknownIntNeg h.0, h.1)
  of_ruled (list t) h = of_ruled t h
  of_ruled (array w t) h = of_ruled t h
  of_ruled (struct fs) h = of_ruled_fields fs h.1

  of_ruled_fields : (fs : Fields) → RuledFields fs → Eachs LeafFits NameFits fs
  of_ruled_fields empty h = tt
  of_ruled_fields (field name t fs) h = (h.0, of_ruled t h.1, of_ruled_fields fs h.2)

-- each field has a node of its own and at least one below it
fields_sizes : (fs : Fields) → 2 * count fs ≤ sizes fs
unfolding count size
fields_sizes empty = omega arith
fields_sizes (field name t fs) = let h = size_pos t in let g = fields_sizes fs in omega arith

module _ (nodes : ℕ) (few : (n : ℕ) → 1 + 2 * n ≤ nodes → argument_fits kind.Struct n ≡ true) where
  mutual
    unfolding Each Ruled size

    to_ruled : (t : DataType) → LeavesFit t → size t ≤ nodes → Ruled t
    to_ruled (leaf k a) h g =
        let s = both_true (leb k kind.UnknownIntNeg) _ h in (leb-true k kind.UnknownIntNeg s.0, s.1)
    to_ruled (list t) h g = to_ruled t h (omega arith)
    to_ruled (array w t) h g = to_ruled t h (omega arith)
    to_ruled (struct fs) h g =
        (few (count fs) (let c = fields_sizes fs in omega arith), to_ruled_fields fs h (omega arith))

    to_ruled_fields : (fs : Fields) → Eachs LeafFits NameFits fs → sizes fs ≤ nodes → RuledFields fs
    to_ruled_fields empty h g = tt
    to_ruled_fields (field name t fs) h g =
        (h.0, to_ruled t h.1 (omega arith), to_ruled_fields fs h.2 (omega arith))

pub valid : (nodes deep : ℕ) → ((n : ℕ) → 1 + 2 * n ≤ nodes → argument_fits kind.Struct n ≡ true)
    → AnswersValid nodes deep
valid nodes deep few o i l r t h g e w d =
    record {
      ruled = to_ruled nodes few t (leaves_fit o i l r t (of_ruled l h) (of_ruled r g) e) w;
      within = w;
      shallow = d;
    }

-- so many nodes let no Struct have too many fields
pub few_fields : {nodes : ℕ} → nodes ≤ 2 * 256 → (n : ℕ) → 1 + 2 * n ≤ nodes → argument_fits kind.Struct n ≡ true
unfolding argument_fits argument_rule
few_fields h n g = lt-ltb n 256 (omega arith)
