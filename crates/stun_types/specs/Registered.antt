-- What is registered.
use Rattle.std.specs.Prelude.{◌≡◌, ℕ, List, Option, codes, unwrap_or, if◌then◌else◌}
use Rattle.std.specs.Option.{option_map}
use Rattle.std.specs.Str.{bytes_eq}
use Rattle.stun_grammar.specs.Names.{attribute_name, method_name}
use Rattle.stun_types.specs.declared.show.registry.Registry.{Registry}
use Rattle.stun_types.specs.Table.{value_of, Sets}

-- the name that is registered for a type
abbrev pub registered_name : {F : Type 0} {g : _} → Registry F g → ℕ → Option (List ℕ)
registered_name registry type =
    option_map (λ name. name.now) (value_of registry.names.entries.items type)

-- the name that is registered for a method
abbrev pub registered_method_name : {F : Type 0} {g : _} → Registry F g → ℕ → Option (List ℕ)
registered_method_name registry method =
    option_map (λ name. name.now) (value_of registry.method_names.entries.items method)

-- the function that is registered for a type
abbrev pub registered_display : {F : Type 0} {g : _} → Registry F g → ℕ → Option F
registered_display registry type =
    option_map (λ printer. printer.imp) (value_of registry.printers.entries.items type)

-- a registration of a name for a type: the names are as before with this one, and all else is as
-- before
pub record AddsName {F : Type 0} {g : _} (type : ℕ) (name : List ℕ)
    (before after : Registry F g) : Type 0 where
  pub names : Sets type name (registered_name before) (registered_name after)
  pub method_names : registered_method_name after ≡ registered_method_name before
  pub displays : registered_display after ≡ registered_display before

-- the same for a method
pub record AddsMethodName {F : Type 0} {g : _} (method : ℕ) (name : List ℕ)
    (before after : Registry F g) : Type 0 where
  pub names : registered_name after ≡ registered_name before
  pub method_names : Sets method name (registered_method_name before) (registered_method_name after)
  pub displays : registered_display after ≡ registered_display before

-- the same for a function
pub record AddsDisplay {F : Type 0} {g : _}
    (type : ℕ) (display : F) (before after : Registry F g) : Type 0 where
  pub names : registered_name after ≡ registered_name before
  pub method_names : registered_method_name after ≡ registered_method_name before
  pub displays : Sets type display (registered_display before) (registered_display after)

-- nothing was registered
pub record IsUnchanged {F : Type 0} {g : _} (before after : Registry F g) : Type 0 where
  pub names : registered_name after ≡ registered_name before
  pub method_names : registered_method_name after ≡ registered_method_name before
  pub displays : registered_display after ≡ registered_display before

-- the library's own name, or else the registered one
abbrev pub own_or : List ℕ → Option (List ℕ) → List ℕ
own_or own registered = if bytes_eq own (codes "unknown") then unwrap_or registered own else own

-- the name of a type, and of a method
abbrev pub name_of : {F : Type 0} {g : _} → Registry F g → ℕ → List ℕ
name_of registry type = own_or (attribute_name type) (registered_name registry type)

abbrev pub method_name_of : {F : Type 0} {g : _} → Registry F g → ℕ → List ℕ
method_name_of registry method =
    own_or (method_name method) (registered_method_name registry method)
