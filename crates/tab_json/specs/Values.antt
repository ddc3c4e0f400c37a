-- The values that JSON values stand for, by the types of OData.
use Rattle.std.specs.Prelude.{ℕ, ◌^◌, ℤ, pos, negsuc, List, Bool, ◌&&◌, nat_lt, if◌then◌else◌, Option, Some, None, option_map, option_and_then, codes, bytes_eq}
use Rattle.std.specs.Fmt.{signed_decimal}
use Rattle.std.specs.Str.Parse.{signed_digits_value}
use Rattle.serde_json.specs.Data.{Data, null, boolean, number, string, array, object}
use Rattle.serde_json.specs.Find.{as_str, as_bool, as_number, as_i64}
use Rattle.base64.specs.Engines.{standard}
use Rattle.base64.specs.GeneralPurpose.{decoded_of}
use Rattle.uuid.specs.Text.{parsed}
use Rattle.tab_edm.specs.Moments.{moment_of}
use Rattle.tab_edm.specs.declared.values.Value.{Value}
use Rattle.tab_edm.specs.declared.values.Value.TheVariants.{Text, Flag, Int32, Int64, Moment, Guid, Bytes}
use Rattle.tab_json.specs.declared.types.EdmType.{EdmType}

-- the type that a text names
unfoldable pub named_type : List ℕ → Option EdmType
named_type name =
    if bytes_eq name (codes "Edm.String") then Some EdmType.String
    else (if bytes_eq name (codes "Edm.Boolean") then Some EdmType.Boolean
    else (if bytes_eq name (codes "Edm.Int32") then Some EdmType.Int32
    else (if bytes_eq name (codes "Edm.Int64") then Some EdmType.Int64
    else (if bytes_eq name (codes "Edm.DateTime") then Some EdmType.DateTime
    else (if bytes_eq name (codes "Edm.Guid") then Some EdmType.Guid
    else (if bytes_eq name (codes "Edm.Binary") then Some EdmType.Binary
    else None))))))

-- the type of a JSON value beside which no type is named
abbrev pub own_type : Data → Option EdmType
own_type (string text) = Some EdmType.String
own_type (boolean b) = Some EdmType.Boolean
own_type (number n) = Some EdmType.Int32
own_type null = None
own_type (array _) = None
own_type (object _) = None

-- the numbers of 32 bits, and of 64
abbrev pub fits_32_bits : ℤ → Bool
fits_32_bits (pos n) = nat_lt n (2 ^ 31)
fits_32_bits (negsuc n) = nat_lt n (2 ^ 31)

abbrev pub fits_64_bits : ℤ → Bool
fits_64_bits (pos n) = nat_lt n (2 ^ 63)
fits_64_bits (negsuc n) = nat_lt n (2 ^ 63)

-- the number of 32 bits that a JSON value is; one with a point, one with an exponent and `-0` are floats and no such number
abbrev pub int32_of : Data → Option ℤ
int32_of value = option_and_then (λ z. if fits_32_bits z then Some z else None) (option_and_then as_i64 (as_number value))

-- the number of 64 bits whose decimal text this is
unfoldable pub int64_of : List ℕ → Option ℤ
int64_of text =
    let z = signed_digits_value 10 text in
    if bytes_eq (signed_decimal z) text && fits_64_bits z then Some z else None

-- the value of this type that a JSON value stands for: flags and numbers of 32 bits are JSON's own, and a text stands for
-- each other value
unfoldable pub value_as : EdmType → Data → Option Value
value_as EdmType.String value = option_map Text (as_str value)
value_as EdmType.Boolean value = option_map Flag (as_bool value)
value_as EdmType.Int32 value = option_map Int32 (int32_of value)
value_as EdmType.Int64 value = option_map Int64 (option_and_then int64_of (as_str value))
value_as EdmType.DateTime value = option_map Moment (option_and_then moment_of (as_str value))
value_as EdmType.Guid value = option_map Guid (option_and_then parsed (as_str value))
value_as EdmType.Binary value = option_map Bytes (option_and_then (decoded_of standard) (as_str value))
