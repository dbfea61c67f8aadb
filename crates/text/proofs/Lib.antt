pub mod AppendLaws
pub mod DecimalLaws
pub mod HexLaws
pub mod NumeralLaws
pub mod Settled
pub mod PageLaws
pub mod DraftLaws
pub mod PieceLaws
