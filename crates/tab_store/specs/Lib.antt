pub mod Stores
pub mod Stepping
pub mod Keeping
pub mod Limits
pub mod Rightness
pub mod Chains
pub mod Examples
pub mod Tables
pub mod Lending
pub mod Due
pub mod Numbers
pub mod Belonging
pub mod Targets
pub use Rattle.tab_tablets.specs.ByRow
pub use Rattle.tab_tablets.specs.Listing
pub use Rattle.tab_tablets.specs.Parts
pub use Rattle.tab_tablets.specs.Places
pub use Rattle.tab_tablets.specs.Restored
pub use Rattle.tab_tablets.specs.Splits
pub use Rattle.tab_tablets.specs.Tablets
pub use Rattle.tab_tablets.specs.declared.DueKind as DueKindType
pub use Rattle.tab_tablets.specs.declared.DueKind.TheVariants as DueKindVariants
pub use Rattle.tab_tablets.specs.declared.Installed as InstalledType
pub use Rattle.tab_tablets.specs.declared.Installed.TheVariants as InstalledVariants
pub use Rattle.tab_tablets.specs.declared.splitting.Split as SplitType
pub use Rattle.tab_tablets.specs.declared.splitting.Split.TheVariants as SplitVariants
