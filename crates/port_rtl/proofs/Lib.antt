mod Units
mod Items
